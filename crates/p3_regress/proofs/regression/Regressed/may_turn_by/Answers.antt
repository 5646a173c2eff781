use Rattle.std.proofs.Common.{◌≡◌, ◌∙◌, IfOk, subst, sym}
use Rattle.std.proofs.lemmas.Result.{IfOk-weaker}
use Rattle.p3_regress.specs.Memory.{Regression}
use Rattle.p3_regress.specs.Sorted.{lent}
use Rattle.p3_regress.specs.Turned.{may_turn}
use Rattle.p3_regress.proofs.TurnedLaws.{may_turn_same}
use Rattle.p3_regress.proofs.regression.Regressed.may_turn_by.Goals as goal

pub returns : goal.returns
returns c =
    subst (λ (all : Regression). IfOk c.may_turn_by.result (λ may. may ≡ may_turn all.effects c.args.up c.args.form.now)) c.self.view_is
    (IfOk-weaker c.may_turn_by.result _ _ (λ may is. is ∙ (λ i. may_turn (lent (c.deref.ensures.value i)) c.args.up c.args.form.now)
    ∙ sym (may_turn_same c.self.inside.effects.now (lent c.self.inside.changes.items) c.self.invariant.0 c.args.up c.args.form.now)) c.may_turn_by.ensures)
