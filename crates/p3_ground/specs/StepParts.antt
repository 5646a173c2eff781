-- What steps are, by their numbers and by the choices of objects of their actions: which may begin, what they want, and what they cost.
use Rattle.std.specs.Prelude.{◌≡◌, ℕ, ◌+◌, ◌<◌, true, false, slice_get, Some}
use Rattle.p3_task.specs.Costs.{cost_places}
use Rattle.p3_task.specs.Offences.{WellFormed}
use Rattle.p3_task.specs.Plans.{Reached, step_cost}
use Rattle.p3_task.specs.States.{State}
use Rattle.p3_task.specs.StepNumbers.{HasNumber}
use Rattle.p3_task.specs.declared.task.Action.{Action}
use Rattle.p3_task.specs.declared.task.Step.{Step}
use Rattle.p3_task.specs.declared.task.Task.{Task}
use Rattle.p3_numbers.specs.Choices.{choice_count}
use Rattle.p3_numbers.specs.Places.{ranges_of}
use Rattle.p3_numbers.specs.Slots.{Slots}
use Rattle.p3_numbers.specs.Tasks.{IsNumberedTask, numbered_action}
use Rattle.p3_numbers.specs.declared.numbers.Numbers.{Numbers}
use Rattle.p3_numbers.specs.declared.task.NumberedTask.{NumberedTask}
use Rattle.p3_expansion.specs.Statics.{AreStatics}
use Rattle.p3_expansion.specs.declared.statics.Statics.{Statics}
use Rattle.p3_steps.specs.Possible.{may_begin}
use Rattle.p3_steps.specs.Costs.{cost_of}
use Rattle.p3_ground.specs.Expanded.{IsStepAt, IsAtChoice, choice_of, step_of, steps_before}
use Rattle.p3_ground.specs.Sparse.{HasPossibleConjuncts}
use Rattle.p3_ground.specs.StandsFor.{can_begin}

-- a well-formed task over numbers, and what its steps do not change
pub record IsKnownWhole (T : Task) (X : NumberedTask) (S : Statics) : Type 0 where
  pub well : WellFormed T
  pub numbered : IsNumberedTask T X
  pub statics : AreStatics X S

-- the step is that of an action at a choice of objects
pub record IsSomeChoice (T : Task) (N : Numbers) (number : ℕ) (step : Step) : Type 0 where
  pub place : ℕ
  pub action : Action
  pub here : slice_get T.domain.actions place ≡ Some action
  pub rest : ℕ
  pub within : rest < choice_count N (ranges_of N action.params)
  pub is : IsAtChoice T N place action rest
  pub number_is : steps_before N T place + rest ≡ number
  pub step_is : step ≡ step_of N action (choice_of N action rest)

-- each step with a number is one
abbrev pub NumbersAreChoices : Type 0
NumbersAreChoices = (T : Task) (X : NumberedTask) (number : ℕ) (step : Step) → WellFormed T → IsNumberedTask T X → HasNumber T step number → IsSomeChoice T X.numbers number step

-- what holds of the steps of all such tasks at the objects in their slots
abbrev pub OfSteps : (Task → NumberedTask → Statics → Action → Slots → Step → Type 0) → Type 0
OfSteps Says = (T : Task) (X : NumberedTask) (S : Statics) (action : Action) (slots : Slots) (step : Step) → IsKnownWhole T X S → IsStepAt T X.numbers action slots step → Says T X S action slots step

-- where the precondition may not begin, the step begins in no reached state
abbrev pub NeverBegins : Task → NumberedTask → Statics → Action → Slots → Step → Type 0
NeverBegins T X S action slots step = may_begin X.numbers S slots (numbered_action X.numbers action).pre ≡ false → (s : State) → Reached T s → can_begin T s step ≡ false

-- where it may, each atom that `and` alone joins in it is possible
abbrev pub WantsWhatIsPossible : Task → NumberedTask → Statics → Action → Slots → Step → Type 0
WantsWhatIsPossible T X S action slots step = may_begin X.numbers S slots (numbered_action X.numbers action).pre ≡ true → HasPossibleConjuncts T step

-- the effect costs by numbers what the step costs
abbrev pub CostsAlike : Task → NumberedTask → Statics → Action → Slots → Step → Type 0
CostsAlike T X S action slots step = cost_of (cost_places T) X.values slots (numbered_action X.numbers action).effect ≡ step_cost T step
