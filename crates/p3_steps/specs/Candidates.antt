-- Choices of objects by number, and those of them that may begin.
use Rattle.std.specs.Prelude.{◌≡◌, ℕ, ◌+◌, ◌-◌, ◌*◌, ◌<◌, ◌==◌, nat_lt, Bool, false, List, [], ◌∷◌, ◌++◌, map, length, slice_index_or, if◌then◌else◌}
use Rattle.std.specs.List.{filter, list_any, range_with_len}
use Rattle.p3_numbers.specs.Choices.{choice_count, choice}
use Rattle.p3_numbers.specs.Slots.{Slots}
use Rattle.p3_numbers.specs.declared.goal.NumberedGoal.{NumberedGoal}
use Rattle.p3_numbers.specs.declared.numbers.Numbers.{Numbers}
use Rattle.p3_expansion.specs.declared.statics.Statics.{Statics}
use Rattle.p3_steps.specs.Possible.{may_begin, may_yet_begin}

-- the numbers of all choices that may begin, rising
abbrev pub candidates_of : Numbers → Statics → List ℕ → NumberedGoal → List ℕ
candidates_of N S ranges goal = filter (λ number. may_begin N S (choice N ranges number) goal) (range_with_len 0 (choice_count N ranges))

-- the choices of these numbers, which follow on so many, that may begin
abbrev pub candidates_among : Numbers → Statics → List ℕ → NumberedGoal → ℕ → List ℕ → List ℕ
candidates_among N S ranges goal first those = filter (λ number. may_begin N S (choice N ranges number) goal) (map (λ number. number - first) those)

-- ---- those that are open, as they may yet begin without the objects of quantifiers

abbrev pub first_open : Numbers → Statics → List ℕ → NumberedGoal → ℕ → List ℕ
first_open N S ranges goal count = filter (λ number. may_yet_begin N S (choice N ranges number) goal) (range_with_len 0 count)

abbrev pub open_choices : Numbers → Statics → List ℕ → NumberedGoal → List ℕ
open_choices N S ranges goal = first_open N S ranges goal (choice_count N ranges)

abbrev pub open_among : Numbers → Statics → List ℕ → NumberedGoal → ℕ → List ℕ → List ℕ
open_among N S ranges goal first those = filter (λ number. may_yet_begin N S (choice N ranges number) goal) (map (λ number. number - first) those)

-- ---- one object more

-- the goal may begin where the object at the place comes behind those in the slots
abbrev pub may_take : Numbers → Statics → NumberedGoal → Slots → List ℕ → ℕ → Bool
may_take N S goal slots objects place = may_yet_begin N S (slots ++ slice_index_or objects place 0 ∷ []) goal

-- the numbers, on from the first, of the first so many objects that may come behind those in the slots
abbrev pub first_taken : Numbers → Statics → NumberedGoal → Slots → List ℕ → ℕ → ℕ → List ℕ
first_taken N S goal slots objects first count = map (λ place. first + place) (filter (may_take N S goal slots objects) (range_with_len 0 count))

abbrev pub all_taken : Numbers → Statics → NumberedGoal → Slots → List ℕ → ℕ → List ℕ
all_taken N S goal slots objects first = first_taken N S goal slots objects first (length objects)

-- with an object that has a name and is not among these the goal cannot begin
abbrev pub RulesOut : Numbers → Statics → NumberedGoal → Slots → List ℕ → Type 0
RulesOut N S goal slots row = (object : ℕ) → object < length N.objects → list_any (λ one. one == object) row ≡ false → may_yet_begin N S (slots ++ object ∷ []) goal ≡ false

-- those behind a choice of one object of each range before
abbrev pub taken_behind : Numbers → Statics → NumberedGoal → List ℕ → List ℕ → ℕ → List ℕ
taken_behind N S goal before objects number = all_taken N S goal (choice N before number) objects (number * length objects)

-- the number of the object at the place, on from the first, if it may come behind those in the slots
abbrev pub taken_at : Numbers → Statics → NumberedGoal → Slots → List ℕ → ℕ → ℕ → List ℕ
taken_at N S goal slots objects first place = if may_take N S goal slots objects place then (first + place) ∷ [] else []

-- ---- places of objects

-- for each of the objects its place is noted, which is below their count
abbrev pub AreNoted : List ℕ → List ℕ → Type 0
AreNoted places objects = (place : ℕ) → place < length objects → slice_index_or places (slice_index_or objects place 0) (length objects) ≡ place

-- of so many objects the places of these are noted
pub record ArePlaces (all : ℕ) (objects places : List ℕ) : Type 0 where
  pub size : length places ≡ all
  pub noted : AreNoted places objects

-- the place that is noted for the object, if it is below the count
abbrev pub noted_at : List ℕ → ℕ → ℕ → List ℕ
noted_at places count object = if nat_lt (slice_index_or places object count) count then slice_index_or places object count ∷ [] else []
