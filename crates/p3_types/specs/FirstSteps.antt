-- The first step of each action, by number.
use Rattle.std.specs.Prelude.{ℕ, ◌+◌, min, List, [], ◌∷◌, map}
use Rattle.p3_task.specs.Sides.{step_count_limit}
use Rattle.p3_numbers.specs.Choices.{choice_count}
use Rattle.p3_numbers.specs.declared.task.NumberedAction.{NumberedAction}
use Rattle.p3_numbers.specs.declared.task.NumberedTask.{NumberedTask}

-- so many steps are too many to be numbered
abbrev pub too_many : ℕ
too_many = step_count_limit + 1

-- how many steps each action has
abbrev pub counts_of : NumberedTask → List ℕ
counts_of X = map (λ (action : NumberedAction). choice_count X.numbers action.ranges) X.actions

-- behind so many steps, the number of each action's first step, and then how many steps there are, as far as they are not too many
abbrev pub firsts_from : ℕ → List ℕ → List ℕ
firsts_from passed [] = min passed too_many ∷ []
firsts_from passed (count ∷ counts) = min passed too_many ∷ firsts_from (passed + count) counts
