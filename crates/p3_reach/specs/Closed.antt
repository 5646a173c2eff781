-- Sets of atoms that are closed for a task, and the states that its steps lead to.
use Rattle.std.specs.Prelude.{◌≡◌, ℕ, Bool, true, false, not, ◌&&◌, ◌||◌, List, map, length, slice_get, slice_index_or, Some, Contains, IsTrue}
use Rattle.std.specs.List.{list_all}
use Rattle.p3_formula.specs.Forms.{State, is_set, truth}
use Rattle.p3_formula.specs.Next.{after}
use Rattle.p3_formula.specs.declared.form.Change.{Change}
use Rattle.p3_formula.specs.declared.task.GroundStep.{GroundStep}
use Rattle.p3_formula.specs.declared.task.GroundTask.{GroundTask}
use Rattle.p3_reach.specs.May.{may_hold}
use Rattle.p3_reach.specs.declared.reach.Marks.{Marks}

-- each atom of the first set is one of the second
abbrev pub IsWithin : State → State → Type 0
IsWithin first second = (atom : ℕ) → is_set first atom ≡ true → is_set second atom ≡ true

-- the set has the atom of an adding change whose condition may hold
abbrev pub change_keeps : State → Change → Bool
change_keeps set change = not (change.add && may_hold set change.cond) || is_set set change.atom

-- where the step may fit, the set has what it may add
abbrev pub step_keeps : State → GroundStep → Bool
step_keeps set step = not (may_hold set step.pre) || list_all (change_keeps set) step.effects

-- a set of the task's atoms that has the initial ones, and what steps that may fit over it may add
pub record IsClosed (G : GroundTask) (set : State) : Type 0 where
  pub size : length set ≡ G.atoms
  pub initial : IsWithin G.initial set
  pub steps : IsTrue (list_all (step_keeps set) G.steps)

-- every closed set has all atoms of this one
abbrev pub IsInEachClosed : GroundTask → State → Type 0
IsInEachClosed G set = (other : State) → IsClosed G other → IsWithin set other

-- which steps may fit over the set
abbrev pub steps_that_may : State → List GroundStep → List Bool
steps_that_may set steps = map (λ step. may_hold set step.pre) steps

-- the states that steps of the task lead to, each from a state where its precondition holds
pub data IsReachable (G : GroundTask) : State → Type 0 where
  Initial : (state : State) → state ≡ G.initial → IsReachable G state
  Further : (before state : State) (step : GroundStep) → IsReachable G before → Contains G.steps step → IsTrue (truth before step.pre) → state ≡ after before step.effects → IsReachable G state

-- a step of the task at a place without a mark
pub record IsUnmarked (G : GroundTask) (marks : Marks) (step : GroundStep) : Type 0 where
  pub place : ℕ
  pub here : slice_get G.steps place ≡ Some step
  pub unmarked : slice_index_or marks.steps place true ≡ false

-- the set has all atoms of every reachable state
abbrev pub HasEachReachable : GroundTask → State → Type 0
HasEachReachable G set = (state : State) → IsReachable G state → IsWithin state set

-- a step without a mark fits in no reachable state
abbrev pub FitsOnlyMarked : GroundTask → Marks → Type 0
FitsOnlyMarked G marks = (state : State) (step : GroundStep) → IsReachable G state → IsUnmarked G marks step → truth state step.pre ≡ false
