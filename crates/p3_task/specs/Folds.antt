-- One fold for each recursive type of the trees. A meaning of a tree is given by one layer of it, where each child stands as its own meaning.
use Rattle.std.specs.Prelude.{List, [], ◌∷◌}
use mathlib.Core.Former.{Count, one_more}
use Rattle.p3_task.specs.declared.formula.Formula.{Formula, Formula-F, Row_of-Formula, end_of-Formula, more_of-Formula}
use Rattle.p3_task.specs.declared.formula.Formula.TheVariants as formula
use Rattle.p3_task.specs.declared.formula.Formula.TheOpen as formula_layer
use Rattle.p3_task.specs.declared.effect.Effect.{Effect, Effect-F, Row_of-Effect, end_of-Effect, more_of-Effect}
use Rattle.p3_task.specs.declared.effect.Effect.TheVariants as effect
use Rattle.p3_task.specs.declared.effect.Effect.TheOpen as effect_layer
use Rattle.p3_task.specs.declared.goal.PreGoal.{PreGoal, PreGoal-F, Row_of-PreGoal, end_of-PreGoal, more_of-PreGoal}
use Rattle.p3_task.specs.declared.goal.PreGoal.TheVariants as goal
use Rattle.p3_task.specs.declared.goal.PreGoal.TheOpen as goal_layer
use Rattle.p3_task.specs.declared.constraint.Constraint.{Constraint, Constraint-F, Row_of-Constraint, end_of-Constraint, more_of-Constraint}
use Rattle.p3_task.specs.declared.constraint.Constraint.TheVariants as constraint
use Rattle.p3_task.specs.declared.constraint.Constraint.TheOpen as constraint_layer
use Rattle.p3_task.specs.declared.metric.Num.{Num, Num-F, Row_of-Num, end_of-Num, more_of-Num}
use Rattle.p3_task.specs.declared.metric.Num.TheVariants as num
use Rattle.p3_task.specs.declared.metric.Num.TheOpen as num_layer

abbrev mutual
  pub fold_formula : {A : Type 0} → (Formula-F A → A) → Formula → A
  fold_formula layer (formula.Atom pred args) = layer (formula_layer.Atom pred args)
  fold_formula layer (formula.Equal left right) = layer (formula_layer.Equal left right)
  fold_formula layer (formula.And' _ parts) = layer (formula_layer.And (fold_formulas layer parts))
  fold_formula layer (formula.Or' _ parts) = layer (formula_layer.Or (fold_formulas layer parts))
  fold_formula layer (formula.Not' _ part) = layer (formula_layer.Not (fold_one_formula layer part))
  fold_formula layer (formula.Imply' _ first _ second) = layer (formula_layer.Imply (fold_one_formula layer first) (fold_one_formula layer second))
  fold_formula layer (formula.Exists' vars _ body) = layer (formula_layer.Exists vars (fold_one_formula layer body))
  fold_formula layer (formula.Forall' vars _ body) = layer (formula_layer.Forall vars (fold_one_formula layer body))

  pub fold_formulas : {A : Type 0} → (Formula-F A → A) → {n : Count} → Row_of-Formula n → List A
  fold_formulas layer end_of-Formula = []
  fold_formulas layer (more_of-Formula part rest) = fold_formula layer part ∷ fold_formulas layer rest

  pub fold_one_formula : {A : Type 0} → (Formula-F A → A) → {n : Count} → Row_of-Formula (one_more n) → A
  fold_one_formula layer (more_of-Formula part rest) = fold_formula layer part

abbrev mutual
  pub fold_effect : {A : Type 0} → (Effect-F A → A) → Effect → A
  fold_effect layer (effect.Add pred args) = layer (effect_layer.Add pred args)
  fold_effect layer (effect.Del pred args) = layer (effect_layer.Del pred args)
  fold_effect layer (effect.All' _ parts) = layer (effect_layer.All (fold_effects layer parts))
  fold_effect layer (effect.Each' vars _ body) = layer (effect_layer.Each vars (fold_one_effect layer body))
  fold_effect layer (effect.If' condition _ body) = layer (effect_layer.If condition (fold_one_effect layer body))
  fold_effect layer (effect.Cost at amount) = layer (effect_layer.Cost at amount)

  pub fold_effects : {A : Type 0} → (Effect-F A → A) → {n : Count} → Row_of-Effect n → List A
  fold_effects layer end_of-Effect = []
  fold_effects layer (more_of-Effect part rest) = fold_effect layer part ∷ fold_effects layer rest

  pub fold_one_effect : {A : Type 0} → (Effect-F A → A) → {n : Count} → Row_of-Effect (one_more n) → A
  fold_one_effect layer (more_of-Effect part rest) = fold_effect layer part

abbrev mutual
  pub fold_goal : {A : Type 0} → (PreGoal-F A → A) → PreGoal → A
  fold_goal layer (goal.Plain body) = layer (goal_layer.Plain body)
  fold_goal layer (goal.Both' _ parts) = layer (goal_layer.Both (fold_goals layer parts))
  fold_goal layer (goal.Each' vars _ body) = layer (goal_layer.Each vars (fold_one_goal layer body))
  fold_goal layer (goal.Soft pref) = layer (goal_layer.Soft pref)

  pub fold_goals : {A : Type 0} → (PreGoal-F A → A) → {n : Count} → Row_of-PreGoal n → List A
  fold_goals layer end_of-PreGoal = []
  fold_goals layer (more_of-PreGoal part rest) = fold_goal layer part ∷ fold_goals layer rest

  pub fold_one_goal : {A : Type 0} → (PreGoal-F A → A) → {n : Count} → Row_of-PreGoal (one_more n) → A
  fold_one_goal layer (more_of-PreGoal part rest) = fold_goal layer part

abbrev mutual
  pub fold_constraint : {A : Type 0} → (Constraint-F A → A) → Constraint → A
  fold_constraint layer (constraint.Both' _ parts) = layer (constraint_layer.Both (fold_constraints layer parts))
  fold_constraint layer (constraint.Each' vars _ body) = layer (constraint_layer.Each vars (fold_one_constraint layer body))
  fold_constraint layer (constraint.Single modal) = layer (constraint_layer.Single modal)
  fold_constraint layer (constraint.Soft' at name _ body) = layer (constraint_layer.Soft at name (fold_one_constraint layer body))

  pub fold_constraints : {A : Type 0} → (Constraint-F A → A) → {n : Count} → Row_of-Constraint n → List A
  fold_constraints layer end_of-Constraint = []
  fold_constraints layer (more_of-Constraint part rest) = fold_constraint layer part ∷ fold_constraints layer rest

  pub fold_one_constraint : {A : Type 0} → (Constraint-F A → A) → {n : Count} → Row_of-Constraint (one_more n) → A
  fold_one_constraint layer (more_of-Constraint part rest) = fold_constraint layer part

abbrev mutual
  pub fold_num : {A : Type 0} → (Num-F A → A) → Num → A
  fold_num layer (num.Number numeral) = layer (num_layer.Number numeral)
  fold_num layer (num.TotalCost at) = layer (num_layer.TotalCost at)
  fold_num layer (num.Violated name) = layer (num_layer.Violated name)
  fold_num layer (num.Neg' at _ part) = layer (num_layer.Neg at (fold_one_num layer part))
  fold_num layer (num.Sub' at _ first _ second) = layer (num_layer.Sub at (fold_one_num layer first) (fold_one_num layer second))
  fold_num layer (num.Sum' at _ parts) = layer (num_layer.Sum at (fold_nums layer parts))
  fold_num layer (num.Product' at _ parts) = layer (num_layer.Product at (fold_nums layer parts))

  pub fold_nums : {A : Type 0} → (Num-F A → A) → {n : Count} → Row_of-Num n → List A
  fold_nums layer end_of-Num = []
  fold_nums layer (more_of-Num part rest) = fold_num layer part ∷ fold_nums layer rest

  pub fold_one_num : {A : Type 0} → (Num-F A → A) → {n : Count} → Row_of-Num (one_more n) → A
  fold_one_num layer (more_of-Num part rest) = fold_num layer part
