-- One fold for each recursive type of numbered trees. A meaning of a tree is given by one layer of it, where each child stands as its own meaning.
use Rattle.std.specs.Prelude.{List, [], ◌∷◌}
use mathlib.Core.Former.{Count, one_more}
use Rattle.p3_numbers.specs.declared.condition.NumberedCondition.{NumberedCondition, NumberedCondition-F, Row_of-NumberedCondition, end_of-NumberedCondition, more_of-NumberedCondition}
use Rattle.p3_numbers.specs.declared.condition.NumberedCondition.TheVariants as condition
use Rattle.p3_numbers.specs.declared.condition.NumberedCondition.TheOpen as condition_layer
use Rattle.p3_numbers.specs.declared.effect.NumberedEffect.{NumberedEffect, NumberedEffect-F, Row_of-NumberedEffect, end_of-NumberedEffect, more_of-NumberedEffect}
use Rattle.p3_numbers.specs.declared.effect.NumberedEffect.TheVariants as effect
use Rattle.p3_numbers.specs.declared.effect.NumberedEffect.TheOpen as effect_layer
use Rattle.p3_numbers.specs.declared.goal.NumberedGoal.{NumberedGoal, NumberedGoal-F, Row_of-NumberedGoal, end_of-NumberedGoal, more_of-NumberedGoal}
use Rattle.p3_numbers.specs.declared.goal.NumberedGoal.TheVariants as goal
use Rattle.p3_numbers.specs.declared.goal.NumberedGoal.TheOpen as goal_layer
use Rattle.p3_numbers.specs.declared.constraint.NumberedConstraint.{NumberedConstraint, NumberedConstraint-F, Row_of-NumberedConstraint, end_of-NumberedConstraint, more_of-NumberedConstraint}
use Rattle.p3_numbers.specs.declared.constraint.NumberedConstraint.TheVariants as constraint
use Rattle.p3_numbers.specs.declared.constraint.NumberedConstraint.TheOpen as constraint_layer

abbrev mutual
  pub fold_condition : {A : Type 0} → (NumberedCondition-F A → A) → NumberedCondition → A
  fold_condition layer (condition.Atom predicate args) = layer (condition_layer.Atom predicate args)
  fold_condition layer (condition.Equal left right) = layer (condition_layer.Equal left right)
  fold_condition layer (condition.And' _ parts) = layer (condition_layer.And (fold_conditions layer parts))
  fold_condition layer (condition.Or' _ parts) = layer (condition_layer.Or (fold_conditions layer parts))
  fold_condition layer (condition.Not' _ part) = layer (condition_layer.Not (fold_one_condition layer part))
  fold_condition layer (condition.Imply' _ first _ second) = layer (condition_layer.Imply (fold_one_condition layer first) (fold_one_condition layer second))
  fold_condition layer (condition.Exists' ranges _ body) = layer (condition_layer.Exists ranges (fold_one_condition layer body))
  fold_condition layer (condition.Forall' ranges _ body) = layer (condition_layer.Forall ranges (fold_one_condition layer body))

  pub fold_conditions : {A : Type 0} → (NumberedCondition-F A → A) → {n : Count} → Row_of-NumberedCondition n → List A
  fold_conditions layer end_of-NumberedCondition = []
  fold_conditions layer (more_of-NumberedCondition part rest) = fold_condition layer part ∷ fold_conditions layer rest

  pub fold_one_condition : {A : Type 0} → (NumberedCondition-F A → A) → {n : Count} → Row_of-NumberedCondition (one_more n) → A
  fold_one_condition layer (more_of-NumberedCondition part rest) = fold_condition layer part

abbrev mutual
  pub fold_goal : {A : Type 0} → (NumberedGoal-F A → A) → NumberedGoal → A
  fold_goal layer (goal.Plain body) = layer (goal_layer.Plain body)
  fold_goal layer (goal.Both' _ parts) = layer (goal_layer.Both (fold_goals layer parts))
  fold_goal layer (goal.Each' ranges _ body) = layer (goal_layer.Each ranges (fold_one_goal layer body))
  fold_goal layer (goal.Soft preference) = layer (goal_layer.Soft preference)

  pub fold_goals : {A : Type 0} → (NumberedGoal-F A → A) → {n : Count} → Row_of-NumberedGoal n → List A
  fold_goals layer end_of-NumberedGoal = []
  fold_goals layer (more_of-NumberedGoal part rest) = fold_goal layer part ∷ fold_goals layer rest

  pub fold_one_goal : {A : Type 0} → (NumberedGoal-F A → A) → {n : Count} → Row_of-NumberedGoal (one_more n) → A
  fold_one_goal layer (more_of-NumberedGoal part rest) = fold_goal layer part

abbrev mutual
  pub fold_effect : {A : Type 0} → (NumberedEffect-F A → A) → NumberedEffect → A
  fold_effect layer (effect.Add predicate args) = layer (effect_layer.Add predicate args)
  fold_effect layer (effect.Del predicate args) = layer (effect_layer.Del predicate args)
  fold_effect layer (effect.All' _ parts) = layer (effect_layer.All (fold_effects layer parts))
  fold_effect layer (effect.Each' ranges _ body) = layer (effect_layer.Each ranges (fold_one_effect layer body))
  fold_effect layer (effect.If' condition _ body) = layer (effect_layer.If condition (fold_one_effect layer body))
  fold_effect layer (effect.Cost amount) = layer (effect_layer.Cost amount)

  pub fold_effects : {A : Type 0} → (NumberedEffect-F A → A) → {n : Count} → Row_of-NumberedEffect n → List A
  fold_effects layer end_of-NumberedEffect = []
  fold_effects layer (more_of-NumberedEffect part rest) = fold_effect layer part ∷ fold_effects layer rest

  pub fold_one_effect : {A : Type 0} → (NumberedEffect-F A → A) → {n : Count} → Row_of-NumberedEffect (one_more n) → A
  fold_one_effect layer (more_of-NumberedEffect part rest) = fold_effect layer part

abbrev mutual
  pub fold_constraint : {A : Type 0} → (NumberedConstraint-F A → A) → NumberedConstraint → A
  fold_constraint layer (constraint.Both' _ parts) = layer (constraint_layer.Both (fold_constraints layer parts))
  fold_constraint layer (constraint.Each' ranges _ body) = layer (constraint_layer.Each ranges (fold_one_constraint layer body))
  fold_constraint layer (constraint.Single modal) = layer (constraint_layer.Single modal)
  fold_constraint layer (constraint.Soft' at name _ body) = layer (constraint_layer.Soft at name (fold_one_constraint layer body))

  pub fold_constraints : {A : Type 0} → (NumberedConstraint-F A → A) → {n : Count} → Row_of-NumberedConstraint n → List A
  fold_constraints layer end_of-NumberedConstraint = []
  fold_constraints layer (more_of-NumberedConstraint part rest) = fold_constraint layer part ∷ fold_constraints layer rest

  pub fold_one_constraint : {A : Type 0} → (NumberedConstraint-F A → A) → {n : Count} → Row_of-NumberedConstraint (one_more n) → A
  fold_one_constraint layer (more_of-NumberedConstraint part rest) = fold_constraint layer part
