-- The sizes of trees that are built of given parts.
use Rattle.std.proofs.Common.{◌≡◌, ◌∙◌, ℕ, ◌+◌, Option, List, ◌∷◌, map, refl, ap}
use Rattle.std.proofs.lemmas.List.Folds.{fold-map}
use mathlib.Core.Former.{Count}
use denote.Hole.Carrier.{hidden}
use Rattle.p3_numbers.specs.Folds.{fold_condition, fold_conditions, fold_effect, fold_effects, fold_goal, fold_goals, fold_constraint, fold_constraints}
use Rattle.p3_numbers.specs.declared.condition.NumberedArgument.{NumberedArgument}
use Rattle.p3_numbers.specs.declared.condition.NumberedCondition.{NumberedCondition, NumberedCondition-F, Row_of-NumberedCondition, end_of-NumberedCondition, more_of-NumberedCondition, items-the_row-NumberedCondition, items_hidden-the_row-NumberedCondition-0}
use Rattle.p3_numbers.specs.declared.condition.NumberedCondition.TheBlock.{hidden-the_row-NumberedCondition-0, hidden-the_row-NumberedCondition-1}
use Rattle.p3_numbers.specs.declared.condition.NumberedCondition.TheVariants as condition
use Rattle.p3_numbers.specs.declared.effect.NumberedAmount.{NumberedAmount}
use Rattle.p3_numbers.specs.declared.effect.NumberedEffect.{NumberedEffect, NumberedEffect-F, Row_of-NumberedEffect, end_of-NumberedEffect, more_of-NumberedEffect, items-the_row-NumberedEffect, items_hidden-the_row-NumberedEffect-0}
use Rattle.p3_numbers.specs.declared.effect.NumberedEffect.TheBlock.{hidden-the_row-NumberedEffect-0, hidden-the_row-NumberedEffect-1}
use Rattle.p3_numbers.specs.declared.effect.NumberedEffect.TheVariants as effect
use Rattle.p3_numbers.specs.declared.goal.NumberedPreference.{NumberedPreference}
use Rattle.p3_numbers.specs.declared.goal.NumberedGoal.{NumberedGoal, NumberedGoal-F, Row_of-NumberedGoal, end_of-NumberedGoal, more_of-NumberedGoal, items-the_row-NumberedGoal, items_hidden-the_row-NumberedGoal-0}
use Rattle.p3_numbers.specs.declared.goal.NumberedGoal.TheBlock.{hidden-the_row-NumberedGoal-0, hidden-the_row-NumberedGoal-1}
use Rattle.p3_numbers.specs.declared.goal.NumberedGoal.TheVariants as goal
use Rattle.p3_numbers.specs.NumberedModal.{NumberedModal}
use Rattle.p3_numbers.specs.declared.constraint.NumberedConstraint.{NumberedConstraint, NumberedConstraint-F, Row_of-NumberedConstraint, end_of-NumberedConstraint, more_of-NumberedConstraint, items-the_row-NumberedConstraint, items_hidden-the_row-NumberedConstraint-0}
use Rattle.p3_numbers.specs.declared.constraint.NumberedConstraint.TheBlock.{hidden-the_row-NumberedConstraint-0, hidden-the_row-NumberedConstraint-1}
use Rattle.p3_numbers.specs.declared.constraint.NumberedConstraint.TheVariants as constraint
use Rattle.p3_numbers.specs.declared.numbers.Numbers.{Numbers}
use Rattle.p3_limits.specs.Cuts.{cut, cut_choices, cut_total, cut_sum}
use Rattle.p3_limits.specs.Sizes.{above, above_two, above_each, condition_layer, condition_size, effect_layer, effect_size, goal_layer, goal_size, modal_size, constraint_layer, constraint_size}

-- ---- folds at a list of parts

module _ {A : Type 0} (layer : NumberedCondition-F A → A) where
  row_conditions : {n : Count} (row : Row_of-NumberedCondition n) → fold_conditions layer row ≡ map (fold_condition layer) (items-the_row-NumberedCondition n row)
  row_conditions end_of-NumberedCondition = refl
  row_conditions (more_of-NumberedCondition part rest) = λ i. fold_condition layer part ∷ row_conditions rest i

  pub hidden_conditions : (parts : List NumberedCondition) → fold_conditions layer (hidden-the_row-NumberedCondition-0 parts) ≡ map (fold_condition layer) parts
  hidden_conditions parts = row_conditions (hidden-the_row-NumberedCondition-0 parts) ∙ ap (map (fold_condition layer)) (items_hidden-the_row-NumberedCondition-0 parts)

module _ {A : Type 0} (layer : NumberedEffect-F A → A) where
  row_effects : {n : Count} (row : Row_of-NumberedEffect n) → fold_effects layer row ≡ map (fold_effect layer) (items-the_row-NumberedEffect n row)
  row_effects end_of-NumberedEffect = refl
  row_effects (more_of-NumberedEffect part rest) = λ i. fold_effect layer part ∷ row_effects rest i

  pub hidden_effects : (parts : List NumberedEffect) → fold_effects layer (hidden-the_row-NumberedEffect-0 parts) ≡ map (fold_effect layer) parts
  hidden_effects parts = row_effects (hidden-the_row-NumberedEffect-0 parts) ∙ ap (map (fold_effect layer)) (items_hidden-the_row-NumberedEffect-0 parts)

module _ {A : Type 0} (layer : NumberedGoal-F A → A) where
  row_goals : {n : Count} (row : Row_of-NumberedGoal n) → fold_goals layer row ≡ map (fold_goal layer) (items-the_row-NumberedGoal n row)
  row_goals end_of-NumberedGoal = refl
  row_goals (more_of-NumberedGoal part rest) = λ i. fold_goal layer part ∷ row_goals rest i

  pub hidden_goals : (parts : List NumberedGoal) → fold_goals layer (hidden-the_row-NumberedGoal-0 parts) ≡ map (fold_goal layer) parts
  hidden_goals parts = row_goals (hidden-the_row-NumberedGoal-0 parts) ∙ ap (map (fold_goal layer)) (items_hidden-the_row-NumberedGoal-0 parts)

module _ {A : Type 0} (layer : NumberedConstraint-F A → A) where
  row_constraints : {n : Count} (row : Row_of-NumberedConstraint n) → fold_constraints layer row ≡ map (fold_constraint layer) (items-the_row-NumberedConstraint n row)
  row_constraints end_of-NumberedConstraint = refl
  row_constraints (more_of-NumberedConstraint part rest) = λ i. fold_constraint layer part ∷ row_constraints rest i

  pub hidden_constraints : (parts : List NumberedConstraint) → fold_constraints layer (hidden-the_row-NumberedConstraint-0 parts) ≡ map (fold_constraint layer) parts
  hidden_constraints parts = row_constraints (hidden-the_row-NumberedConstraint-0 parts) ∙ ap (map (fold_constraint layer)) (items_hidden-the_row-NumberedConstraint-0 parts)

-- a sum of sizes that stand in a list of their own
pub cut_total-map : {A : Type 0} (size : A → ℕ) (start : ℕ) (items : List A) → cut_sum start (map size items) ≡ cut_total size start items
cut_total-map size start items = fold-map (λ total n. cut (total + n)) size start items

-- ---- sizes

module _ (N : Numbers) where
  pub condition-Atom : (predicate : ℕ) (args : List NumberedArgument) → condition_size N (condition.Atom predicate args) ≡ 1
  unfolding condition_size
  condition-Atom predicate args = refl

  pub condition-Equal : (left : NumberedArgument) (right : NumberedArgument) → condition_size N (condition.Equal left right) ≡ 1
  unfolding condition_size
  condition-Equal left right = refl

  pub condition-And : (parts : List NumberedCondition) → condition_size N (condition.And parts) ≡ cut_total (condition_size N) 1 parts
  unfolding condition_size
  condition-And parts = ap (cut_sum 1) (hidden_conditions (condition_layer N) parts) ∙ cut_total-map (fold_condition (condition_layer N)) 1 parts

  pub condition-Or : (parts : List NumberedCondition) → condition_size N (condition.Or parts) ≡ cut_total (condition_size N) 1 parts
  unfolding condition_size
  condition-Or parts = ap (cut_sum 1) (hidden_conditions (condition_layer N) parts) ∙ cut_total-map (fold_condition (condition_layer N)) 1 parts

  pub condition-Not : (part : NumberedCondition) → condition_size N (condition.Not part) ≡ above (condition_size N part)
  unfolding condition_size hidden-the_row-NumberedCondition-1 hidden
  condition-Not part = refl

  pub condition-Imply : (first : NumberedCondition) (second : NumberedCondition) → condition_size N (condition.Imply first second) ≡ above_two (condition_size N first) (condition_size N second)
  unfolding condition_size hidden-the_row-NumberedCondition-1 hidden
  condition-Imply first second = refl

  pub condition-Exists : (ranges : List ℕ) (body : NumberedCondition) → condition_size N (condition.Exists ranges body) ≡ above_each (cut_choices N ranges) (condition_size N body)
  unfolding condition_size hidden-the_row-NumberedCondition-1 hidden
  condition-Exists ranges body = refl

  pub condition-Forall : (ranges : List ℕ) (body : NumberedCondition) → condition_size N (condition.Forall ranges body) ≡ above_each (cut_choices N ranges) (condition_size N body)
  unfolding condition_size hidden-the_row-NumberedCondition-1 hidden
  condition-Forall ranges body = refl

  pub effect-Add : (predicate : ℕ) (args : List NumberedArgument) → effect_size N (effect.Add predicate args) ≡ 1
  unfolding effect_size
  effect-Add predicate args = refl

  pub effect-Del : (predicate : ℕ) (args : List NumberedArgument) → effect_size N (effect.Del predicate args) ≡ 1
  unfolding effect_size
  effect-Del predicate args = refl

  pub effect-All : (parts : List NumberedEffect) → effect_size N (effect.All parts) ≡ cut_total (effect_size N) 1 parts
  unfolding effect_size
  effect-All parts = ap (cut_sum 1) (hidden_effects (effect_layer N) parts) ∙ cut_total-map (fold_effect (effect_layer N)) 1 parts

  pub effect-Each : (ranges : List ℕ) (body : NumberedEffect) → effect_size N (effect.Each ranges body) ≡ above_each (cut_choices N ranges) (effect_size N body)
  unfolding effect_size hidden-the_row-NumberedEffect-1 hidden
  effect-Each ranges body = refl

  pub effect-If : (test : NumberedCondition) (body : NumberedEffect) → effect_size N (effect.If test body) ≡ above_two (condition_size N test) (effect_size N body)
  unfolding effect_size hidden-the_row-NumberedEffect-1 hidden
  effect-If test body = refl

  pub effect-Cost : (increase : NumberedAmount) → effect_size N (effect.Cost increase) ≡ 1
  unfolding effect_size
  effect-Cost increase = refl

  pub goal-Plain : (body : NumberedCondition) → goal_size N (goal.Plain body) ≡ condition_size N body
  unfolding goal_size
  goal-Plain body = refl

  pub goal-Both : (parts : List NumberedGoal) → goal_size N (goal.Both parts) ≡ cut_total (goal_size N) 1 parts
  unfolding goal_size
  goal-Both parts = ap (cut_sum 1) (hidden_goals (goal_layer N) parts) ∙ cut_total-map (fold_goal (goal_layer N)) 1 parts

  pub goal-Each : (ranges : List ℕ) (body : NumberedGoal) → goal_size N (goal.Each ranges body) ≡ above_each (cut_choices N ranges) (goal_size N body)
  unfolding goal_size hidden-the_row-NumberedGoal-1 hidden
  goal-Each ranges body = refl

  pub goal-Soft : (preference : NumberedPreference) → goal_size N (goal.Soft preference) ≡ above (condition_size N preference.body)
  unfolding goal_size
  goal-Soft preference = refl

  pub constraint-Both : (parts : List NumberedConstraint) → constraint_size N (constraint.Both parts) ≡ cut_total (constraint_size N) 1 parts
  unfolding constraint_size
  constraint-Both parts = ap (cut_sum 1) (hidden_constraints (constraint_layer N) parts) ∙ cut_total-map (fold_constraint (constraint_layer N)) 1 parts

  pub constraint-Each : (ranges : List ℕ) (body : NumberedConstraint) → constraint_size N (constraint.Each ranges body) ≡ above_each (cut_choices N ranges) (constraint_size N body)
  unfolding constraint_size hidden-the_row-NumberedConstraint-1 hidden
  constraint-Each ranges body = refl

  pub constraint-Single : (operator : NumberedModal) → constraint_size N (constraint.Single operator) ≡ modal_size N operator
  unfolding constraint_size
  constraint-Single operator = refl

  pub constraint-Soft : (at : ℕ) (name : Option ℕ) (body : NumberedConstraint) → constraint_size N (constraint.Soft at name body) ≡ above (constraint_size N body)
  unfolding constraint_size hidden-the_row-NumberedConstraint-1 hidden
  constraint-Soft at name body = refl

pub ruleset condition_sizes = (condition-Atom, condition-Equal, condition-And, condition-Or, condition-Not, condition-Imply, condition-Exists, condition-Forall)

pub ruleset effect_sizes = (effect-Add, effect-Del, effect-All, effect-Each, effect-If, effect-Cost)

pub ruleset goal_sizes = (goal-Plain, goal-Both, goal-Each, goal-Soft)

pub ruleset constraint_sizes = (constraint-Both, constraint-Each, constraint-Single, constraint-Soft)
