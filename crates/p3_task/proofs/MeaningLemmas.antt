-- What trees mean that are built from a list of parts. At all other forms of trees the definitions compute.
use Rattle.std.proofs.Common.{◌≡◌, ◌∙◌, refl, ap, Bool, ◌||◌, List, [], ◌∷◌, map}
use Rattle.std.specs.Prelude.{flat_map}
use Rattle.std.specs.List.{list_any, list_all}
use Rattle.std.proofs.lemmas.List.Folds.{list_all-map, flat_map-map}
use Rattle.p3_task.specs.States.{State, Environment}
use Rattle.p3_task.specs.Formulas.{holds, holds_layer}
use Rattle.p3_task.specs.Effects.{adds, adds_layer, dels, dels_layer}
use Rattle.p3_task.specs.Goals.{hard_holds, hard_layer}
use Rattle.p3_task.specs.Costs.{increases, increases_layer}
use Rattle.p3_task.specs.Constraints.{hard_modals, hard_modals_layer}
use Rattle.p3_task.specs.Uses as uses
use Rattle.p3_task.proofs.FoldLemmas.{fold_formula-And, fold_formula-Or, fold_effect-All, fold_goal-Both, fold_constraint-Both}
use Rattle.p3_task.specs.declared.formula.Formula.{Formula}
use Rattle.p3_task.specs.declared.formula.Formula.TheVariants as formula
use Rattle.p3_task.specs.declared.effect.Effect.{Effect}
use Rattle.p3_task.specs.declared.effect.Effect.TheVariants as effect
use Rattle.p3_task.specs.declared.goal.PreGoal.{PreGoal}
use Rattle.p3_task.specs.declared.goal.PreGoal.TheVariants as goal
use Rattle.p3_task.specs.declared.constraint.Constraint.{Constraint}
use Rattle.p3_task.specs.declared.constraint.Constraint.TheVariants as constraint
use Rattle.p3_task.specs.declared.metric.Num.TheVariants as num
use Rattle.p3_task.specs.declared.task.Task.{Task}

pub list_any-map : {A B : Type 0} (test : B → Bool) (item : A → B) (xs : List A) → list_any test (map item xs) ≡ list_any (λ x. test (item x)) xs
list_any-map test item [] = refl
list_any-map test item (x ∷ xs) = ap (λ rest. test (item x) || rest) (list_any-map test item xs)

module _ (T : Task) (s : State) (env : Environment) where
  pub holds-And : (parts : List Formula) → holds T s env (formula.And parts) ≡ list_all (holds T s env) parts
  unfolding holds
  holds-And parts = ap (λ truth. truth env) (fold_formula-And (holds_layer T s) parts) ∙ list_all-map (λ truth. truth env) _ parts

  pub holds-Or : (parts : List Formula) → holds T s env (formula.Or parts) ≡ list_any (holds T s env) parts
  unfolding holds
  holds-Or parts = ap (λ truth. truth env) (fold_formula-Or (holds_layer T s) parts) ∙ list_any-map (λ truth. truth env) _ parts

  pub adds-All : (parts : List Effect) → adds T s env (effect.All parts) ≡ flat_map (adds T s env) parts
  unfolding adds
  adds-All parts = ap (λ literals. literals env) (fold_effect-All (adds_layer T s) parts) ∙ flat_map-map (λ literals. literals env) _ parts

  pub dels-All : (parts : List Effect) → dels T s env (effect.All parts) ≡ flat_map (dels T s env) parts
  unfolding dels
  dels-All parts = ap (λ literals. literals env) (fold_effect-All (dels_layer T s) parts) ∙ flat_map-map (λ literals. literals env) _ parts

  pub hard_holds-Both : (parts : List PreGoal) → hard_holds T s env (goal.Both parts) ≡ list_all (hard_holds T s env) parts
  unfolding hard_holds
  hard_holds-Both parts = ap (λ truth. truth env) (fold_goal-Both (hard_layer T s) parts) ∙ list_all-map (λ truth. truth env) _ parts

module _ (T : Task) (env : Environment) where
  pub hard_modals-Both : (parts : List Constraint) → hard_modals T env (constraint.Both parts) ≡ flat_map (hard_modals T env) parts
  unfolding hard_modals
  hard_modals-Both parts = ap (λ found. found env) (fold_constraint-Both (hard_modals_layer T) parts) ∙ flat_map-map (λ found. found env) _ parts

pub increases-All : (parts : List Effect) → increases (effect.All parts) ≡ flat_map increases parts
unfolding increases
increases-All parts = fold_effect-All increases_layer parts ∙ flat_map-map (λ found. found) _ parts
