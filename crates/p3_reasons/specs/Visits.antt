-- The atoms that are true in the states that a plan visits, by number, and that they are the facts of these states.
use Rattle.std.specs.Prelude.{◌≡◌, List, map, fold, slice_get, bytes_eq, Option, Some, None}
use Rattle.std.specs.List.{list_any, AllZip}
use Rattle.p3_task.specs.Offences.{WellFormed}
use Rattle.p3_task.specs.Plans.{Plan, action_named, visited, last_state}
use Rattle.p3_task.specs.declared.task.Action.{Action}
use Rattle.p3_task.specs.declared.task.Step.{Step}
use Rattle.p3_task.specs.declared.task.Task.{Task}
use Rattle.p3_numbers.specs.Places.{Fills, words_of}
use Rattle.p3_numbers.specs.Slots.{object_names}
use Rattle.p3_numbers.specs.Tasks.{IsNumberedTask}
use Rattle.p3_numbers.specs.declared.task.NumberedAction.{NumberedAction}
use Rattle.p3_numbers.specs.declared.task.NumberedTask.{NumberedTask}
use Rattle.p3_expansion.specs.Statics.{atom_of}
use Rattle.p3_reasons.specs.Decided.{TellsFacts}
use Rattle.p3_reasons.specs.Effects.{changed, taken}
use Rattle.p3_reasons.specs.Outcomes.{Test}
use Rattle.p3_reasons.specs.declared.visited.PlacedStep.{PlacedStep}

-- ---- by number

abbrev pub start_test : NumberedTask → Test
start_test X atom = list_any (bytes_eq atom) (map atom_of X.start)

abbrev pub action_test : NumberedTask → Test → PlacedStep → Option NumberedAction → Test
action_test X test step None = test
action_test X test step (Some action) = changed test (taken X.numbers test step.objects action.effect)

abbrev pub step_test : NumberedTask → Test → PlacedStep → Test
step_test X test step = action_test X test step (slice_get X.actions step.action)

abbrev pub test_after : NumberedTask → List PlacedStep → Test
test_after X steps = fold (step_test X) (start_test X) steps

-- ---- what they tell

-- the place is that of the step's action, and the objects are its arguments
pub record IsPlaced (T : Task) (X : NumberedTask) (step : Step) (placed : PlacedStep) : Type 0 where
  pub action : Action
  pub at : slice_get T.domain.actions placed.action ≡ Some action
  pub named : action_named T step.action ≡ Some action
  pub fills : Fills X.numbers (words_of action.params) placed.objects
  pub args : object_names X.numbers placed.objects ≡ step.args

-- behind the steps of a plan the facts are those of the state that it leads to
abbrev pub VisitsAreTold : Type 0
VisitsAreTold = (T : Task) (X : NumberedTask) → WellFormed T → IsNumberedTask T X → (plan : Plan) (steps : List PlacedStep) → AllZip (IsPlaced T X) plan steps
    → TellsFacts X.numbers (test_after X steps) (last_state (visited T plan))
