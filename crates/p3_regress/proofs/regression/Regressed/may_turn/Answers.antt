use Rattle.std.proofs.Common.{◌≡◌, ◌∙◌, subst, sym}
use Rattle.p3_regress.specs.Memory.{Regression}
use Rattle.p3_regress.specs.Sorted.{lent}
use Rattle.p3_regress.specs.Turned.{may_turn}
use Rattle.p3_regress.proofs.TurnedLaws.{may_turn_same}
use Rattle.p3_regress.proofs.regression.Regressed.may_turn.Goals as goal

pub returns : goal.returns
returns c =
    subst (λ (all : Regression). c.may_turn.result ≡ may_turn all.effects c.args.up c.args.form.now) c.self.view_is
    (c.may_turn.ensures ∙ (λ i. may_turn (lent (c.deref.ensures.value i)) c.args.up c.args.form.now)
    ∙ sym (may_turn_same c.self.inside.effects.now (lent c.self.inside.changes.items) c.self.invariant.0 c.args.up c.args.form.now))
