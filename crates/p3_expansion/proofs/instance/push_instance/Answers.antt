use Rattle.std.proofs.Common.{◌∙◌, ◌++◌, ◌∷◌, [], List, ap, refl}
use Rattle.p3_formula.specs.GroundModal.{GroundModal}
use Rattle.p3_formula.specs.declared.modal.GroundSoft.{GroundSoft}
use Rattle.p3_expansion.proofs.InstanceLemmas.{pushes-instance}
use Rattle.p3_expansion.proofs.instance.push_instance.Goals as goal

pub returns : goal.returns
returns c = λ at.
    let with_parts : List GroundModal → GroundSoft = λ parts. record { name = c.args.name; parts = parts } in
    let pushed = c.in_ok-push.ensures.ok ∙ ap (λ parts. c.args.made.now ++ with_parts parts ∷ []) c.shrink_to_fit.ensures in
    pushes-instance c.args.numbers.now c.args.statics.now c.args.work.now c.push_operators.new.work (record { at = at; name = c.args.name; body = c.args.body.now; slots = c.args.slots.now }) c.args.made.now c.push.new.self (record { name = c.args.name; parts = c.push_operators.new.made })
    c.new-parts.result c.new-parts.ensures c.in_ok-push_operators.ensures refl pushed
