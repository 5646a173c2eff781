-- The expanded sizes of numbered trees, cut.
use Rattle.std.specs.Prelude.{ℕ, ◌+◌, ◌*◌}
use Rattle.p3_numbers.specs.Folds.{fold_condition, fold_effect, fold_goal, fold_constraint}
use Rattle.p3_numbers.specs.declared.condition.NumberedCondition.{NumberedCondition}
use Rattle.p3_numbers.specs.declared.condition.NumberedCondition.TheOpen as condition
use Rattle.p3_numbers.specs.declared.constraint.NumberedConstraint.{NumberedConstraint}
use Rattle.p3_numbers.specs.declared.constraint.NumberedConstraint.TheOpen as constraint
use Rattle.p3_numbers.specs.NumberedModal.{NumberedModal}
use Rattle.p3_base.specs.Operators.{formulas_of}
use Rattle.p3_numbers.specs.declared.effect.NumberedEffect.{NumberedEffect}
use Rattle.p3_numbers.specs.declared.effect.NumberedEffect.TheOpen as effect
use Rattle.p3_numbers.specs.declared.goal.NumberedGoal.{NumberedGoal}
use Rattle.p3_numbers.specs.declared.goal.NumberedGoal.TheOpen as goal
use Rattle.p3_numbers.specs.declared.numbers.Numbers.{Numbers}
use Rattle.p3_limits.specs.Cuts.{cut, cut_choices, cut_sum, cut_total}

-- a tree above one part, above two, and above one at each choice
abbrev pub above : ℕ → ℕ
above part = cut (1 + part)

abbrev pub above_two : ℕ → ℕ → ℕ
above_two first second = cut (above first + second)

abbrev pub above_each : ℕ → ℕ → ℕ
above_each choices body = above (cut (choices * body))

abbrev pub condition_layer : Numbers → condition.NumberedCondition-F ℕ → ℕ
condition_layer N (condition.Atom predicate args) = 1
condition_layer N (condition.Equal left right) = 1
condition_layer N (condition.And parts) = cut_sum 1 parts
condition_layer N (condition.Or parts) = cut_sum 1 parts
condition_layer N (condition.Not part) = above part
condition_layer N (condition.Imply first second) = above_two first second
condition_layer N (condition.Exists ranges body) = above_each (cut_choices N ranges) body
condition_layer N (condition.Forall ranges body) = above_each (cut_choices N ranges) body

unfoldable pub condition_size : Numbers → NumberedCondition → ℕ
condition_size N tree = fold_condition (condition_layer N) tree

abbrev pub effect_layer : Numbers → effect.NumberedEffect-F ℕ → ℕ
effect_layer N (effect.Add predicate args) = 1
effect_layer N (effect.Del predicate args) = 1
effect_layer N (effect.All parts) = cut_sum 1 parts
effect_layer N (effect.Each ranges body) = above_each (cut_choices N ranges) body
effect_layer N (effect.If condition body) = above_two (condition_size N condition) body
effect_layer N (effect.Cost increase) = 1

unfoldable pub effect_size : Numbers → NumberedEffect → ℕ
effect_size N tree = fold_effect (effect_layer N) tree

abbrev pub goal_layer : Numbers → goal.NumberedGoal-F ℕ → ℕ
goal_layer N (goal.Plain body) = condition_size N body
goal_layer N (goal.Both parts) = cut_sum 1 parts
goal_layer N (goal.Each ranges body) = above_each (cut_choices N ranges) body
goal_layer N (goal.Soft preference) = above (condition_size N preference.body)

unfoldable pub goal_size : Numbers → NumberedGoal → ℕ
goal_size N tree = fold_goal (goal_layer N) tree

abbrev pub modal_size : Numbers → NumberedModal → ℕ
modal_size N modal = cut_total (condition_size N) 1 (formulas_of modal)

abbrev pub constraint_layer : Numbers → constraint.NumberedConstraint-F ℕ → ℕ
constraint_layer N (constraint.Both parts) = cut_sum 1 parts
constraint_layer N (constraint.Each ranges body) = above_each (cut_choices N ranges) body
constraint_layer N (constraint.Single operator) = modal_size N operator
constraint_layer N (constraint.Soft at name body) = above body

unfoldable pub constraint_size : Numbers → NumberedConstraint → ℕ
constraint_size N tree = fold_constraint (constraint_layer N) tree
