-- The folds at a tree that is built from a list of parts. At the other forms they compute.
use Rattle.std.proofs.Common.{◌≡◌, ◌∙◌, ℕ, List, ◌∷◌, map, refl, ap}
use mathlib.Core.Former.{Count}
use Rattle.p3_task.specs.Folds.{fold_formula, fold_formulas, fold_effect, fold_effects, fold_goal, fold_goals, fold_constraint, fold_constraints, fold_num, fold_nums}
use Rattle.p3_task.specs.declared.formula.Formula.{Formula, Formula-F, Row_of-Formula, end_of-Formula, more_of-Formula, items-the_row-Formula, items_hidden-the_row-Formula-0}
use Rattle.p3_task.specs.declared.formula.Formula.TheBlock.{hidden-the_row-Formula-0}
use Rattle.p3_task.specs.declared.formula.Formula.TheVariants as formula
use Rattle.p3_task.specs.declared.formula.Formula.TheOpen as formula_layer
use Rattle.p3_task.specs.declared.effect.Effect.{Effect, Effect-F, Row_of-Effect, end_of-Effect, more_of-Effect, items-the_row-Effect, items_hidden-the_row-Effect-0}
use Rattle.p3_task.specs.declared.effect.Effect.TheBlock.{hidden-the_row-Effect-0}
use Rattle.p3_task.specs.declared.effect.Effect.TheVariants as effect
use Rattle.p3_task.specs.declared.effect.Effect.TheOpen as effect_layer
use Rattle.p3_task.specs.declared.goal.PreGoal.{PreGoal, PreGoal-F, Row_of-PreGoal, end_of-PreGoal, more_of-PreGoal, items-the_row-PreGoal, items_hidden-the_row-PreGoal-0}
use Rattle.p3_task.specs.declared.goal.PreGoal.TheBlock.{hidden-the_row-PreGoal-0}
use Rattle.p3_task.specs.declared.goal.PreGoal.TheVariants as goal
use Rattle.p3_task.specs.declared.goal.PreGoal.TheOpen as goal_layer
use Rattle.p3_task.specs.declared.constraint.Constraint.{Constraint, Constraint-F, Row_of-Constraint, end_of-Constraint, more_of-Constraint, items-the_row-Constraint, items_hidden-the_row-Constraint-0}
use Rattle.p3_task.specs.declared.constraint.Constraint.TheBlock.{hidden-the_row-Constraint-0}
use Rattle.p3_task.specs.declared.constraint.Constraint.TheVariants as constraint
use Rattle.p3_task.specs.declared.constraint.Constraint.TheOpen as constraint_layer
use Rattle.p3_task.specs.declared.metric.Num.{Num, Num-F, Row_of-Num, end_of-Num, more_of-Num, items-the_row-Num, items_hidden-the_row-Num-1}
use Rattle.p3_task.specs.declared.metric.Num.TheBlock.{hidden-the_row-Num-1}
use Rattle.p3_task.specs.declared.metric.Num.TheVariants as num
use Rattle.p3_task.specs.declared.metric.Num.TheOpen as num_layer

module _ {A : Type 0} (layer : Formula-F A → A) where
  row_formulas : {n : Count} (row : Row_of-Formula n) → fold_formulas layer row ≡ map (fold_formula layer) (items-the_row-Formula n row)
  row_formulas end_of-Formula = refl
  row_formulas (more_of-Formula part rest) = λ i. fold_formula layer part ∷ row_formulas rest i

  hidden_formulas : (parts : List Formula) → fold_formulas layer (hidden-the_row-Formula-0 parts) ≡ map (fold_formula layer) parts
  hidden_formulas parts = row_formulas (hidden-the_row-Formula-0 parts) ∙ ap (map (fold_formula layer)) (items_hidden-the_row-Formula-0 parts)

  pub fold_formula-And : (parts : List Formula) → fold_formula layer (formula.And parts) ≡ layer (formula_layer.And (map (fold_formula layer) parts))
  fold_formula-And parts = ap (λ results. layer (formula_layer.And results)) (hidden_formulas parts)

  pub fold_formula-Or : (parts : List Formula) → fold_formula layer (formula.Or parts) ≡ layer (formula_layer.Or (map (fold_formula layer) parts))
  fold_formula-Or parts = ap (λ results. layer (formula_layer.Or results)) (hidden_formulas parts)

module _ {A : Type 0} (layer : Effect-F A → A) where
  row_effects : {n : Count} (row : Row_of-Effect n) → fold_effects layer row ≡ map (fold_effect layer) (items-the_row-Effect n row)
  row_effects end_of-Effect = refl
  row_effects (more_of-Effect part rest) = λ i. fold_effect layer part ∷ row_effects rest i

  hidden_effects : (parts : List Effect) → fold_effects layer (hidden-the_row-Effect-0 parts) ≡ map (fold_effect layer) parts
  hidden_effects parts = row_effects (hidden-the_row-Effect-0 parts) ∙ ap (map (fold_effect layer)) (items_hidden-the_row-Effect-0 parts)

  pub fold_effect-All : (parts : List Effect) → fold_effect layer (effect.All parts) ≡ layer (effect_layer.All (map (fold_effect layer) parts))
  fold_effect-All parts = ap (λ results. layer (effect_layer.All results)) (hidden_effects parts)

module _ {A : Type 0} (layer : PreGoal-F A → A) where
  row_goals : {n : Count} (row : Row_of-PreGoal n) → fold_goals layer row ≡ map (fold_goal layer) (items-the_row-PreGoal n row)
  row_goals end_of-PreGoal = refl
  row_goals (more_of-PreGoal part rest) = λ i. fold_goal layer part ∷ row_goals rest i

  hidden_goals : (parts : List PreGoal) → fold_goals layer (hidden-the_row-PreGoal-0 parts) ≡ map (fold_goal layer) parts
  hidden_goals parts = row_goals (hidden-the_row-PreGoal-0 parts) ∙ ap (map (fold_goal layer)) (items_hidden-the_row-PreGoal-0 parts)

  pub fold_goal-Both : (parts : List PreGoal) → fold_goal layer (goal.Both parts) ≡ layer (goal_layer.Both (map (fold_goal layer) parts))
  fold_goal-Both parts = ap (λ results. layer (goal_layer.Both results)) (hidden_goals parts)

module _ {A : Type 0} (layer : Constraint-F A → A) where
  row_constraints : {n : Count} (row : Row_of-Constraint n) → fold_constraints layer row ≡ map (fold_constraint layer) (items-the_row-Constraint n row)
  row_constraints end_of-Constraint = refl
  row_constraints (more_of-Constraint part rest) = λ i. fold_constraint layer part ∷ row_constraints rest i

  hidden_constraints : (parts : List Constraint) → fold_constraints layer (hidden-the_row-Constraint-0 parts) ≡ map (fold_constraint layer) parts
  hidden_constraints parts = row_constraints (hidden-the_row-Constraint-0 parts) ∙ ap (map (fold_constraint layer)) (items_hidden-the_row-Constraint-0 parts)

  pub fold_constraint-Both : (parts : List Constraint) → fold_constraint layer (constraint.Both parts) ≡ layer (constraint_layer.Both (map (fold_constraint layer) parts))
  fold_constraint-Both parts = ap (λ results. layer (constraint_layer.Both results)) (hidden_constraints parts)

module _ {A : Type 0} (layer : Num-F A → A) where
  row_nums : {n : Count} (row : Row_of-Num n) → fold_nums layer row ≡ map (fold_num layer) (items-the_row-Num n row)
  row_nums end_of-Num = refl
  row_nums (more_of-Num part rest) = λ i. fold_num layer part ∷ row_nums rest i

  hidden_nums : (parts : List Num) → fold_nums layer (hidden-the_row-Num-1 parts) ≡ map (fold_num layer) parts
  hidden_nums parts = row_nums (hidden-the_row-Num-1 parts) ∙ ap (map (fold_num layer)) (items_hidden-the_row-Num-1 parts)

  pub fold_num-Product : (at : ℕ) (parts : List Num) → fold_num layer (num.Product at parts) ≡ layer (num_layer.Product at (map (fold_num layer) parts))
  fold_num-Product at parts = ap (λ results. layer (num_layer.Product at results)) (hidden_nums parts)
