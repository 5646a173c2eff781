-- The steps of a task by their numbers.
use Rattle.std.specs.Prelude.{◌≡◌, ℕ, true, slice_get, Some}
use Rattle.p3_task.specs.Bindings.{are_arguments}
use Rattle.p3_task.specs.Plans.{action_named}
use Rattle.p3_task.specs.Lifting.{steps}
use Rattle.p3_task.specs.declared.task.Action.{Action}
use Rattle.p3_task.specs.declared.task.Step.{Step}
use Rattle.p3_task.specs.declared.task.Task.{Task}

abbrev pub HasNumber : Task → Step → ℕ → Type 0
HasNumber T step number = slice_get (steps T) number ≡ Some step

-- the step's action exists, and its arguments are objects of the parameters' types
pub record IsOwn (T : Task) (step : Step) : Type 0 where
  pub action : Action
  pub named : action_named T step.action ≡ Some action
  pub args : are_arguments T action.params step.args ≡ true

-- the steps with a number are those whose action exists and whose arguments fit, and none has two numbers
pub record HasStepNumbers (T : Task) : Type 0 where
  pub own : (number : ℕ) (step : Step) → HasNumber T step number → IsOwn T step
  pub found : (step : Step) → IsOwn T step → (number : ℕ) × HasNumber T step number
  pub one : (i j : ℕ) (step : Step) → HasNumber T step i → HasNumber T step j → i ≡ j
