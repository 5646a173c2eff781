use Rattle.std.proofs.Common.{◌∙◌, ap, sym, subst}
use Rattle.std.proofs.lemmas.Result.{IfOk-weaker}
use Rattle.p3_formula.specs.Guards.{IsGuardedForm}
use Rattle.p3_formula.specs.Simplified.{with_last}
use Rattle.p3_formula.proofs.GuardLaws.{guarded_form}
use Rattle.p3_formula.proofs.guards.guarding.Goals as goal

pub returns : goal.returns
returns c =
    let simple = c.in_ok-simple.simple in
    IfOk-weaker c.with_last.result _ _
    (λ form is. subst (IsGuardedForm c.args.guards.now c.args.condition) (sym (is ∙ ap (λ kept. with_last kept simple) c.in_ok-kept.ensures))
    (guarded_form c.args.guards.now c.args.condition simple c.in_ok-simple.ensures.truth c.in_ok-simple.ensures.tidy c.in_ok-simple.ensures.atoms))
    c.with_last.ensures
