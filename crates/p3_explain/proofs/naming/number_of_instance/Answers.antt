use Rattle.std.proofs.Common.{◌∙◌, ap}
use Rattle.std.proofs.Math.Logic.{∥∥₁_elim}
use Rattle.p3_explain.specs.Naming.{instance_number, name_numbered}
use Rattle.p3_explain.proofs.NamingLaws.{instance_named}
use Rattle.p3_explain.proofs.NamingLemmas.{names-set}
use Rattle.p3_explain.proofs.naming.number_of_instance.Goals as goal

pub returns : goal.returns
returns c =
    let grounded = c.args.grounded.now in
    let T = grounded.checked.now.task in
    ∥∥₁_elim grounded.standing (names-set _ _) (λ stands.
    ap (name_numbered T) (c.named_instance.ensures ∙ ap (λ task. instance_number task c.args.instance) c.ground_task.ensures)
    ∙ instance_named T stands.atoms grounded.ground_task.now stands.stands c.args.instance)
