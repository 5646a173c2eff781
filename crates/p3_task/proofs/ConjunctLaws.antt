-- Where a formula, a precondition or a goal holds, so does each atom that `and` alone joins in it.
use Rattle.std.proofs.Common.{◌≡◌, ◌∙◌, Bool, true, ◌&&◌, List, [], ◌∷◌, ◌++◌, refl}
use Rattle.std.specs.Prelude.{flat_map}
use Rattle.std.specs.List.{list_all}
use Rattle.std.proofs.Math.Bool.{and-true}
use Rattle.std.proofs.lemmas.Bool.{and_parts}
use mathlib.Core.Former.{Count}
use Rattle.p3_task.specs.Folds.{fold_formulas, fold_goals}
use Rattle.p3_task.specs.Formulas.{holds, holds_layer}
use Rattle.p3_task.specs.Goals.{hard_holds, hard_layer}
use Rattle.p3_task.specs.States.{State, Environment, has_fact, fact_of}
use Rattle.p3_task.specs.declared.formula.Formula.{Formula, Row_of-Formula, end_of-Formula, more_of-Formula}
use Rattle.p3_task.specs.declared.formula.Formula.TheVariants.{Atom, Equal, And', Or', Not', Imply', Exists', Forall'}
use Rattle.p3_task.specs.declared.goal.PreGoal.{PreGoal, Row_of-PreGoal, end_of-PreGoal, more_of-PreGoal}
use Rattle.p3_task.specs.declared.goal.PreGoal.TheVariants as goal
use Rattle.p3_task.specs.declared.task.Task.{Task}
use Rattle.p3_task.specs.Conjuncts.{NamedAtom, formula_conjuncts_layer, formula_conjuncts, goal_conjuncts_layer, goal_conjuncts, all_hold}

all-append : {A : Type 0} (test : A → Bool) (xs ys : List A) → list_all test xs ≡ true → list_all test ys ≡ true → list_all test (xs ++ ys) ≡ true
all-append test [] ys first second = second
all-append test (x ∷ xs) ys first second =
    let parts = and_parts (test x) (list_all test xs) first in
    (λ i. parts.0 i && list_all test (xs ++ ys)) ∙ all-append test xs ys parts.1 second

module _ (T : Task) (s : State) (env : Environment) where
  mutual
    unfolding holds formula_conjuncts

    pub formula-conjuncts-hold : (formula : Formula) → holds T s env formula ≡ true → all_hold s env (formula_conjuncts formula) ≡ true
    formula-conjuncts-hold (Atom pred args) e = and-true (has_fact s (fact_of env pred args)) ∙ e
    formula-conjuncts-hold (Equal left right) e = refl
    formula-conjuncts-hold (And' _ parts) e = formulas-conjuncts-hold parts e
    formula-conjuncts-hold (Or' _ parts) e = refl
    formula-conjuncts-hold (Not' _ part) e = refl
    formula-conjuncts-hold (Imply' _ first _ second) e = refl
    formula-conjuncts-hold (Exists' variables _ body) e = refl
    formula-conjuncts-hold (Forall' variables _ body) e = refl

    formulas-conjuncts-hold : {n : Count} (parts : Row_of-Formula n) → list_all (λ part. part env) (fold_formulas (holds_layer T s) parts) ≡ true → all_hold s env (flat_map (λ part. part) (fold_formulas formula_conjuncts_layer parts)) ≡ true
    formulas-conjuncts-hold end_of-Formula e = refl
    formulas-conjuncts-hold (more_of-Formula part rest) e =
        let parts = and_parts (holds T s env part) (list_all (λ part. part env) (fold_formulas (holds_layer T s) rest)) e in
        all-append (λ (atom : NamedAtom). has_fact s (fact_of env atom.pred atom.args)) (formula_conjuncts part) (flat_map (λ part. part) (fold_formulas formula_conjuncts_layer rest)) (formula-conjuncts-hold part parts.0) (formulas-conjuncts-hold rest parts.1)

  mutual
    unfolding hard_holds goal_conjuncts

    pub goal-conjuncts-hold : (tree : PreGoal) → hard_holds T s env tree ≡ true → all_hold s env (goal_conjuncts tree) ≡ true
    goal-conjuncts-hold (goal.Plain body) e = formula-conjuncts-hold body e
    goal-conjuncts-hold (goal.Both' _ parts) e = goals-conjuncts-hold parts e
    goal-conjuncts-hold (goal.Each' variables _ body) e = refl
    goal-conjuncts-hold (goal.Soft pref) e = refl

    goals-conjuncts-hold : {n : Count} (parts : Row_of-PreGoal n) → list_all (λ part. part env) (fold_goals (hard_layer T s) parts) ≡ true → all_hold s env (flat_map (λ part. part) (fold_goals goal_conjuncts_layer parts)) ≡ true
    goals-conjuncts-hold end_of-PreGoal e = refl
    goals-conjuncts-hold (more_of-PreGoal part rest) e =
        let parts = and_parts (hard_holds T s env part) (list_all (λ part. part env) (fold_goals (hard_layer T s) rest)) e in
        all-append (λ (atom : NamedAtom). has_fact s (fact_of env atom.pred atom.args)) (goal_conjuncts part) (flat_map (λ part. part) (fold_goals goal_conjuncts_layer rest)) (goal-conjuncts-hold part parts.0) (goals-conjuncts-hold rest parts.1)
