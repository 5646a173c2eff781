use Rattle.std.proofs.Common.{◌≡◌, ◌∙◌, ◌≤◌, ◌+◌, IfOk, false, not, subst, sym}
use Rattle.std.proofs.lemmas.Result.{IfOk-weaker}
use Rattle.p3_formula.specs.Forms.{nodes}
use Rattle.p3_formula.specs.Simplified.{constant}
use Rattle.p3_regress.specs.Memory.{Regression}
use Rattle.p3_regress.specs.Regressed.{HasAtomsOfBoth, growth}
use Rattle.p3_regress.specs.Sorted.{lent}
use Rattle.p3_regress.specs.Turned.{IsTurnBefore, may_turn, turned}
use Rattle.p3_regress.proofs.TurnedLaws.{turned_truth, turned_still, turned_nodes, turned_atoms}
use Rattle.p3_regress.proofs.regression.Regressed.turned_by.Goals as goal

-- it is made of the sorted changes
made : (c : goal.After-turned) → IfOk c.turned.result (λ before. before ≡ turned (lent c.self.inside.changes.items) c.args.up c.args.form.now)
made c = IfOk-weaker c.turned.result _ _ (λ before is. is ∙ (λ i. turned (lent (c.deref.ensures.value i)) c.args.up c.args.form.now)) c.turned.ensures

pub returns-clause-truth : goal.returns-clause-truth
returns-clause-truth c =
    subst (λ (all : Regression). IfOk c.turned.result (λ before. IsTurnBefore c.args.up all.effects c.args.form.now before)) c.self.view_is
    (IfOk-weaker c.turned.result _ _ (λ before is. subst (IsTurnBefore c.args.up c.self.inside.effects.now c.args.form.now) (sym is) (turned_truth c.self.inside.effects.now (lent c.self.inside.changes.items) c.self.invariant.0 c.args.up c.args.form.now)) (made c))

pub returns-clause-still : goal.returns-clause-still
returns-clause-still c =
    subst (λ (all : Regression). may_turn all.effects c.args.up c.args.form.now ≡ false → IfOk c.turned.result (λ before. before ≡ constant (not c.args.up))) c.self.view_is
    (λ none. IfOk-weaker c.turned.result _ _ (λ before is. is ∙ turned_still c.self.inside.effects.now (lent c.self.inside.changes.items) c.self.invariant.0 c.args.up c.args.form.now none) (made c))

pub returns-clause-size : goal.returns-clause-size
returns-clause-size c =
    subst (λ (all : Regression). IfOk c.turned.result (λ before. nodes before ≤ nodes c.args.form.now + growth all.effects c.args.form.now)) c.self.view_is
    (IfOk-weaker c.turned.result _ _ (λ before is. subst (λ form. nodes form ≤ nodes c.args.form.now + growth c.self.inside.effects.now c.args.form.now) (sym is) (turned_nodes c.self.inside.effects.now (lent c.self.inside.changes.items) c.self.invariant.0 c.args.up c.args.form.now)) (made c))

pub returns-clause-atoms : goal.returns-clause-atoms
returns-clause-atoms c =
    subst (λ (all : Regression). IfOk c.turned.result (λ before. HasAtomsOfBoth all.effects c.args.form.now before)) c.self.view_is
    (IfOk-weaker c.turned.result _ _ (λ before is. subst (HasAtomsOfBoth c.self.inside.effects.now c.args.form.now) (sym is) (turned_atoms c.self.inside.effects.now (lent c.self.inside.changes.items) c.self.invariant.0 c.args.up c.args.form.now)) (made c))
