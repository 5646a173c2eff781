-- Which parts of a precondition are to be tested when all objects are chosen.
use Rattle.std.specs.Prelude.{◌≡◌, ℕ, Bool, true, ◌&&◌, List}
use Rattle.std.specs.List.{list_all}
use denote.Ref.{Bor}
use Rattle.p3_numbers.specs.Slots.{Slots, bound}
use Rattle.p3_numbers.specs.declared.condition.NumberedCondition.{NumberedCondition}
use Rattle.p3_numbers.specs.declared.goal.NumberedGoal.{NumberedGoal}
use Rattle.p3_numbers.specs.declared.numbers.Numbers.{Numbers}
use Rattle.p3_expansion.specs.Meanings.{each_or_some}
use Rattle.p3_expansion.specs.declared.statics.Statics.{Statics}
use Rattle.p3_steps.specs.Possible.{condition_may, may_be, may_begin, may_yet_be, may_yet_begin}

-- ---- what need not be tested

-- the test without objects for quantifiers tells as much as that with them
abbrev pub IsTestedEarly : NumberedCondition → Type 0
IsTestedEarly condition = (N : Numbers) (S : Statics) (slots : Slots) (wish : Bool) → may_be N S slots condition wish ≡ may_yet_be N S slots condition wish

-- at all objects the condition may have the truth
abbrev pub MayAlways : Numbers → Statics → NumberedCondition → Bool → Type 0
MayAlways N S condition wish = (slots : Slots) → may_be N S slots condition wish ≡ true

-- each of the parts may, or else one
abbrev pub PartsMayAlways : Numbers → Statics → Bool → List NumberedCondition → Bool → Type 0
PartsMayAlways N S every parts wish = (slots : Slots) → each_or_some every (λ part. may_be N S slots part wish) parts ≡ true

-- the body may at each choice of objects, or else at one
abbrev pub BodyMayAlways : Numbers → Statics → Bool → List ℕ → NumberedCondition → Bool → Type 0
BodyMayAlways N S every ranges body wish = (slots : Slots) → each_or_some every (λ inner. may_be N S inner body wish) (bound N slots ranges) ≡ true

abbrev pub MayAlwaysBegin : Numbers → Statics → NumberedGoal → Type 0
MayAlwaysBegin N S goal = (slots : Slots) → may_begin N S slots goal ≡ true

-- where it could begin so far, it may begin
abbrev pub NeedsNoTest : Numbers → Statics → NumberedGoal → Type 0
NeedsNoTest N S goal = (slots : Slots) → may_yet_begin N S slots goal ≡ true → may_begin N S slots goal ≡ true

-- the condition's test gives what is wished, whatever holds
abbrev pub MayAsWished : Slots → NumberedCondition → Bool → Type 0
MayAsWished slots condition wish = (N : Numbers) (S : Statics) (whole : Bool) → condition_may N S whole slots condition wish ≡ wish

-- ---- the parts that are tested

abbrev pub all_begin : Numbers → Statics → Slots → List (Bor NumberedGoal) → Bool
all_begin N S slots parts = list_all (λ part. may_begin N S slots part.now) parts

-- where this could begin so far, those that are found may begin exactly where those found before may, and this
abbrev pub JoinsLate : Numbers → Statics → NumberedGoal → List (Bor NumberedGoal) → List (Bor NumberedGoal) → Type 0
JoinsLate N S goal old new = (slots : Slots) → may_yet_begin N S slots goal ≡ true → all_begin N S slots new ≡ (all_begin N S slots old && may_begin N S slots goal)

abbrev pub JoinsAllLate : Numbers → Statics → List NumberedGoal → List (Bor NumberedGoal) → List (Bor NumberedGoal) → Type 0
JoinsAllLate N S parts old new =
    (slots : Slots) → list_all (λ part. may_yet_begin N S slots part) parts ≡ true → all_begin N S slots new ≡ (all_begin N S slots old && list_all (λ part. may_begin N S slots part) parts)

-- where the precondition could begin so far, it may begin exactly where each of the parts may
abbrev pub AreLate : Numbers → Statics → NumberedGoal → List (Bor NumberedGoal) → Type 0
AreLate N S goal parts = (slots : Slots) → may_yet_begin N S slots goal ≡ true → all_begin N S slots parts ≡ may_begin N S slots goal
