-- A ground task that is put together of the steps that may begin, and what is left of it over a closed set of atoms.
use Rattle.std.specs.Prelude.{◌≡◌, ℕ, ◌+◌, ◌<◌, true, List, slice_get, Some, IsSome}
use Rattle.std.specs.List.{All}
use Rattle.p3_task.specs.StepNumbers.{HasNumber}
use Rattle.p3_task.specs.declared.task.Action.{Action}
use Rattle.p3_task.specs.declared.task.Step.{Step}
use Rattle.p3_task.specs.declared.task.Task.{Task}
use Rattle.p3_formula.specs.Forms.{State}
use Rattle.p3_formula.specs.GroundPlans.{step_of}
use Rattle.p3_formula.specs.declared.task.GroundStep.{GroundStep}
use Rattle.p3_formula.specs.declared.task.GroundTask.{GroundTask}
use Rattle.p3_numbers.specs.Choices.{choice_count}
use Rattle.p3_numbers.specs.Places.{ranges_of}
use Rattle.p3_numbers.specs.Slots.{Slots}
use Rattle.p3_numbers.specs.Tasks.{numbered_action}
use Rattle.p3_numbers.specs.declared.task.NumberedTask.{NumberedTask}
use Rattle.p3_reach.specs.Closed.{IsClosed, IsInEachClosed}
use Rattle.p3_expansion.specs.Atoms.{GroundAtom}
use Rattle.p3_expansion.specs.declared.statics.Statics.{Statics}
use Rattle.p3_steps.specs.Possible.{may_begin}
use Rattle.p3_ground.specs.Expanded.{IsPutTogether, IsStepAt, choice_of, steps_before}
use Rattle.p3_ground.specs.Pruned.{pruned}
use Rattle.p3_ground.specs.Sparse.{IsGroundingOf}
use Rattle.p3_ground.specs.StandsFor.{LeavesOutOnlyUnfit, LeftOutAt}
use Rattle.p3_ground.specs.StepParts.{IsKnownWhole}

-- ---- the steps that may begin

-- each choice of objects at which a precondition may begin has its step
abbrev pub KeepsWhatMayBegin : Task → NumberedTask → Statics → GroundTask → Type 0
KeepsWhatMayBegin T X S G = (place number : ℕ) (action : Action) → slice_get T.domain.actions place ≡ Some action → number < choice_count X.numbers (ranges_of X.numbers action.params)
    → may_begin X.numbers S (choice_of X.numbers action number) (numbered_action X.numbers action).pre ≡ true → IsSome (step_of G (steps_before X.numbers T place + number))

-- the step of that number is there, if its precondition may begin
abbrev pub KeepsAt : Task → NumberedTask → Statics → GroundTask → ℕ → Type 0
KeepsAt T X S G number = (place rest : ℕ) (action : Action) → slice_get T.domain.actions place ≡ Some action → rest < choice_count X.numbers (ranges_of X.numbers action.params)
    → steps_before X.numbers T place + rest ≡ number → may_begin X.numbers S (choice_of X.numbers action rest) (numbered_action X.numbers action).pre ≡ true → IsSome (step_of G number)

-- a kept step is one whose precondition may begin
pub record MayBegin (T : Task) (X : NumberedTask) (S : Statics) (made : GroundStep) : Type 0 where
  pub action : Action
  pub slots : Slots
  pub step : Step
  pub number : HasNumber T step made.number
  pub at : IsStepAt T X.numbers action slots step
  pub may : may_begin X.numbers S slots (numbered_action X.numbers action).pre ≡ true

-- then only steps are left out that begin in no reached state
abbrev pub LeavesOutWhatNeverBegins : Type 0
LeavesOutWhatNeverBegins = (T : Task) (X : NumberedTask) (S : Statics) (G : GroundTask) → IsKnownWhole T X S → KeepsWhatMayBegin T X S G → LeavesOutOnlyUnfit T G

-- so it is at one number
abbrev pub LeavesOutThere : Type 0
LeavesOutThere = (T : Task) (X : NumberedTask) (S : Statics) (G : GroundTask) (number : ℕ) → IsKnownWhole T X S → KeepsAt T X S G number → LeftOutAt T G number

-- ---- the whole

-- over the least closed set of atoms it is a grounding of the task
abbrev pub IsGroundingOverReached : Task → NumberedTask → Statics → List GroundAtom → Type 0
IsGroundingOverReached T X S atoms = (G : GroundTask) (set : State) → IsPutTogether T X S atoms G → LeavesOutOnlyUnfit T G → All (MayBegin T X S) G.steps → IsClosed G set → IsInEachClosed G set → IsGroundingOf T (pruned set G)
