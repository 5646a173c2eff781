-- The actions of a target by the steps as which they count, and which of them fit.
use Rattle.std.specs.Prelude.{◌≡◌, ℕ, ◌+◌, ◌<◌, ◌≤◌, ◌==◌, Bool, true, false, List, [], ◌∷◌, length, map, slice_get, Option, Some, None}
use Rattle.std.specs.List.Sorted.{IsPermutation, IsNonDecreasingBy}
use Rattle.p3_formula.specs.Forms.{State, truth}
use Rattle.p3_formula.specs.Targets.{lifted_number}
use Rattle.p3_formula.specs.declared.target.Target.{Target}
use Rattle.p3_formula.specs.declared.target.TargetAction.{TargetAction}
use Rattle.p3_formula.specs.declared.task.GroundTask.{GroundTask}
use Rattle.p3_embed.specs.declared.actions.Actions.{Actions}
use Rattle.p3_embed.specs.declared.actions.Counted.{Counted}

abbrev pub counted : ℕ → ℕ → Counted
counted number place = record { number = number; place = place }

-- the copies of steps, with their places, which are counted from one on
abbrev pub counted_from : ℕ → List (Option ℕ) → List Counted
counted_from place [] = []
counted_from place (None ∷ counts) = counted_from (place + 1) counts
counted_from place (Some number ∷ counts) = counted number place ∷ counted_from (place + 1) counts

-- the one of that place, where it counts
abbrev pub counted_of : ℕ → Option ℕ → List Counted
counted_of place None = []
counted_of place (Some number) = counted number place ∷ []

abbrev pub is_of : ℕ → Counted → Bool
is_of number one = one.number == number

abbrev pub IsRising : List Counted → Type 0
IsRising copies = IsNonDecreasingBy (λ (one : Counted). one.number) copies

-- those are the copies of steps, by rising number
pub record AreCopies (counts : List (Option ℕ)) (copies : List Counted) : Type 0 where
  pub same : IsPermutation (counted_from 0 counts) copies
  pub rising : IsRising copies

-- there is a count for each action of the target, and the copies are those that the counts tell of
pub record IsIndexed (X : Target) (actions : Actions) : Type 0 where
  pub all : length actions.counts.items ≡ length X.actions
  pub copies : AreCopies actions.counts.items actions.copies.items

-- the steps as which the actions of the target count
pub record AreActionsOf (G : GroundTask) (X : Target) (actions : Actions) : Type 0 where
  pub counts : actions.counts.items ≡ map (λ (action : TargetAction). lifted_number G action.name) X.actions
  pub indexed : IsIndexed X actions

-- the action at a place counts so, and fits in the state
pub record FitsAt (counts : List (Option ℕ)) (X : Target) (state : State) (count : Option ℕ) (place : ℕ) : Type 0 where
  pub action : TargetAction
  pub at : slice_get X.actions place ≡ Some action
  pub counts_so : slice_get counts place ≡ Some count
  pub holds : truth state action.pre ≡ true

-- the action at the place does not count so, or does not fit
abbrev pub NoneFitsAt : List (Option ℕ) → Target → State → Option ℕ → ℕ → Type 0
NoneFitsAt counts X state count place = (action : TargetAction) → slice_get X.actions place ≡ Some action → slice_get counts place ≡ Some count → truth state action.pre ≡ false

-- so it is at each of these places
abbrev pub NoneFitsWithin : List (Option ℕ) → Target → State → Option ℕ → ℕ → ℕ → Type 0
NoneFitsWithin counts X state count from end = (place : ℕ) → from ≤ place → place < end → NoneFitsAt counts X state count place

-- and at all places
abbrev pub NoneFits : List (Option ℕ) → Target → State → Option ℕ → Type 0
NoneFits counts X state count = (place : ℕ) → NoneFitsAt counts X state count place
