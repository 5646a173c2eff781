use Rattle.std.proofs.Common.{◌≡◌, ◌∙◌, ◌≤◌, ◌+◌, IfOk, subst, sym}
use Rattle.std.proofs.lemmas.Result.{IfOk-weaker}
use Rattle.p3_formula.specs.Forms.{nodes}
use Rattle.p3_regress.specs.Memory.{Regression}
use Rattle.p3_regress.specs.Regressed.{IsTrueBefore, IsUntouched, HasAtomsOfBoth, growth, regressed}
use Rattle.p3_regress.specs.Sorted.{lent}
use Rattle.p3_regress.proofs.RegressedLaws.{sorted_truth, sorted_same, sorted_nodes, sorted_atoms}
use Rattle.p3_regress.proofs.regression.Regressed.form.Goals as goal

-- what is made is the form regressed through the sorted changes
made : (c : goal.After-form_before) → IfOk c.form_before.result (λ before. before ≡ regressed (lent c.self.inside.changes.items) c.args.form.now)
made c = IfOk-weaker c.form_before.result _ _ (λ before is. is ∙ (λ i. regressed (lent (c.deref.ensures.value i)) c.args.form.now)) c.form_before.ensures

pub returns-clause-truth : goal.returns-clause-truth
returns-clause-truth c =
    subst (λ (all : Regression). IfOk c.form_before.result (λ before. IsTrueBefore all.effects c.args.form.now before)) c.self.view_is
    (IfOk-weaker c.form_before.result _ _ (λ before is. subst (IsTrueBefore c.self.inside.effects.now c.args.form.now) (sym is) (sorted_truth c.self.inside.effects.now (lent c.self.inside.changes.items) c.self.invariant.0 c.args.form.now)) (made c))

pub returns-clause-untouched : goal.returns-clause-untouched
returns-clause-untouched c =
    subst (λ (all : Regression). IsUntouched all.effects c.args.form.now → IfOk c.form_before.result (λ before. before ≡ c.args.form.now)) c.self.view_is
    (λ untouched. IfOk-weaker c.form_before.result _ _ (λ before is. is ∙ sorted_same c.self.inside.effects.now (lent c.self.inside.changes.items) c.self.invariant.0 c.args.form.now untouched) (made c))

pub returns-clause-size : goal.returns-clause-size
returns-clause-size c =
    subst (λ (all : Regression). IfOk c.form_before.result (λ before. nodes before ≤ nodes c.args.form.now + growth all.effects c.args.form.now)) c.self.view_is
    (IfOk-weaker c.form_before.result _ _ (λ before is. subst (λ form. nodes form ≤ nodes c.args.form.now + growth c.self.inside.effects.now c.args.form.now) (sym is) (sorted_nodes c.self.inside.effects.now (lent c.self.inside.changes.items) c.self.invariant.0 c.args.form.now)) (made c))

pub returns-clause-atoms : goal.returns-clause-atoms
returns-clause-atoms c =
    subst (λ (all : Regression). IfOk c.form_before.result (λ before. HasAtomsOfBoth all.effects c.args.form.now before)) c.self.view_is
    (IfOk-weaker c.form_before.result _ _ (λ before is. subst (HasAtomsOfBoth c.self.inside.effects.now c.args.form.now) (sym is) (sorted_atoms c.self.inside.effects.now (lent c.self.inside.changes.items) c.self.invariant.0 c.args.form.now)) (made c))
