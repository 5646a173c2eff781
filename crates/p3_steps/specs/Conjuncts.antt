-- The conditions that `and` alone joins in a precondition.
use Rattle.std.specs.Prelude.{◌≡◌, Bool, true, ◌&&◌, List}
use Rattle.std.specs.List.{list_all}
use denote.Ref.{Bor}
use Rattle.p3_numbers.specs.Slots.{Slots}
use Rattle.p3_numbers.specs.declared.condition.NumberedCondition.{NumberedCondition}
use Rattle.p3_numbers.specs.declared.goal.NumberedGoal.{NumberedGoal}
use Rattle.p3_numbers.specs.declared.numbers.Numbers.{Numbers}
use Rattle.p3_expansion.specs.declared.statics.Statics.{Statics}
use Rattle.p3_steps.specs.Possible.{may_yet_be, may_yet_begin}

-- each of the conditions may hold
abbrev pub all_may : Numbers → Statics → Slots → List (Bor NumberedCondition) → Bool
all_may N S slots conjuncts = list_all (λ conjunct. may_yet_be N S slots conjunct.now true) conjuncts

-- what may hold with those that are found is what may hold with those found before, and this
abbrev pub JoinsWhat : (Numbers → Statics → Slots → Bool) → List (Bor NumberedCondition) → List (Bor NumberedCondition) → Type 0
JoinsWhat may old new = (N : Numbers) (S : Statics) (slots : Slots) → all_may N S slots new ≡ (all_may N S slots old && may N S slots)

abbrev pub Joins : NumberedCondition → List (Bor NumberedCondition) → List (Bor NumberedCondition) → Type 0
Joins condition old new = JoinsWhat (λ N S slots. may_yet_be N S slots condition true) old new

abbrev pub JoinsAll : List NumberedCondition → List (Bor NumberedCondition) → List (Bor NumberedCondition) → Type 0
JoinsAll parts old new = JoinsWhat (λ N S slots. list_all (λ part. may_yet_be N S slots part true) parts) old new

abbrev pub JoinsGoal : NumberedGoal → List (Bor NumberedCondition) → List (Bor NumberedCondition) → Type 0
JoinsGoal goal old new = JoinsWhat (λ N S slots. may_yet_begin N S slots goal) old new

abbrev pub JoinsAllGoals : List NumberedGoal → List (Bor NumberedCondition) → List (Bor NumberedCondition) → Type 0
JoinsAllGoals parts old new = JoinsWhat (λ N S slots. list_all (may_yet_begin N S slots) parts) old new

-- a precondition may begin exactly where each of the conditions may hold
abbrev pub AreConjuncts : NumberedGoal → List (Bor NumberedCondition) → Type 0
AreConjuncts goal conjuncts = (N : Numbers) (S : Statics) (slots : Slots) → may_yet_begin N S slots goal ≡ all_may N S slots conjuncts
