-- The words `preference` of the instances of numbered trees, in the order of the instances, and how one is found by counting.
use Rattle.std.specs.Prelude.{ℕ, ◌*◌, ◌-◌, ◌/◌, ◌%◌, nat_lt, List, [], ◌∷◌, ◌++◌, flat_map, slice_get, zero, suc, Option, Some, None, if◌then◌else◌}
use Rattle.p3_numbers.specs.Choices.{choice_count}
use Rattle.p3_numbers.specs.Folds.{fold_goal, fold_constraint}
use Rattle.p3_numbers.specs.declared.constraint.NumberedConstraint.{NumberedConstraint}
use Rattle.p3_numbers.specs.declared.constraint.NumberedConstraint.TheOpen as constraint
use Rattle.p3_numbers.specs.declared.goal.NumberedGoal.{NumberedGoal}
use Rattle.p3_numbers.specs.declared.goal.NumberedGoal.TheOpen as goal
use Rattle.p3_numbers.specs.declared.numbers.Numbers.{Numbers}
use Rattle.p3_limits.specs.Cuts.{cut, cut_choices, cut_sum}

-- ---- their offsets

abbrev pub repeated : {A : Type 0} → ℕ → List A → List A
repeated zero items = []
repeated (suc n) items = items ++ repeated n items

-- all offsets of one choice come before those of the next
abbrev pub goal_offsets_layer : Numbers → goal.NumberedGoal-F (List ℕ) → List ℕ
goal_offsets_layer N (goal.Plain body) = []
goal_offsets_layer N (goal.Both parts) = flat_map (λ part. part) parts
goal_offsets_layer N (goal.Each ranges body) = repeated (choice_count N ranges) body
goal_offsets_layer N (goal.Soft preference) = preference.at ∷ []

unfoldable pub goal_offsets : Numbers → NumberedGoal → List ℕ
goal_offsets N tree = fold_goal (goal_offsets_layer N) tree

abbrev pub constraint_offsets_layer : Numbers → constraint.NumberedConstraint-F (List ℕ) → List ℕ
constraint_offsets_layer N (constraint.Both parts) = flat_map (λ part. part) parts
constraint_offsets_layer N (constraint.Each ranges body) = repeated (choice_count N ranges) body
constraint_offsets_layer N (constraint.Single operator) = []
constraint_offsets_layer N (constraint.Soft at name body) = at ∷ []

unfoldable pub constraint_offsets : Numbers → NumberedConstraint → List ℕ
constraint_offsets N tree = fold_constraint (constraint_offsets_layer N) tree

-- ---- how many there are, cut

abbrev pub goal_count_layer : Numbers → goal.NumberedGoal-F ℕ → ℕ
goal_count_layer N (goal.Plain body) = 0
goal_count_layer N (goal.Both parts) = cut_sum 0 parts
goal_count_layer N (goal.Each ranges body) = cut (cut_choices N ranges * body)
goal_count_layer N (goal.Soft preference) = 1

unfoldable pub goal_count : Numbers → NumberedGoal → ℕ
goal_count N tree = fold_goal (goal_count_layer N) tree

abbrev pub constraint_count_layer : Numbers → constraint.NumberedConstraint-F ℕ → ℕ
constraint_count_layer N (constraint.Both parts) = cut_sum 0 parts
constraint_count_layer N (constraint.Each ranges body) = cut (cut_choices N ranges * body)
constraint_count_layer N (constraint.Single operator) = 0
constraint_count_layer N (constraint.Soft at name body) = 1

unfoldable pub constraint_count : Numbers → NumberedConstraint → ℕ
constraint_count N tree = fold_constraint (constraint_count_layer N) tree

-- ---- places in lists that follow one another

-- the place in what stands behind so many items, if it is not one of them
abbrev pub place_behind : ℕ → ℕ → Option ℕ
place_behind count place = if nat_lt place count then None else Some (place - count)

-- the place in one of the choices, which have so many items each
abbrev pub place_within : ℕ → ℕ → ℕ → Option ℕ
place_within choices zero place = None
place_within choices (suc count) place = if nat_lt (place / suc count) choices then Some (place % suc count) else None

-- the item at the place, where there is one
abbrev pub item_at : {A : Type 0} → List A → Option ℕ → Option A
item_at items None = None
item_at items (Some place) = slice_get items place
