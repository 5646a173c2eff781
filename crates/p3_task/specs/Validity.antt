-- Valid plans, and the first fault of one that is not valid.
use Rattle.std.specs.Prelude.{ℕ, Bool, not, ◌&&◌, [], filter_map, slice_get, position, if◌then◌else◌, Option, Some, None, is_some, option_map, IsTrue}
use Rattle.std.specs.List.{list_all, enumerate_from}
use Rattle.std.specs.Option.{option_or}
use Rattle.p3_task.specs.States.{State}
use Rattle.p3_task.specs.Bindings.{are_arguments}
use Rattle.p3_task.specs.Goals.{hard_holds}
use Rattle.p3_task.specs.Plans.{Plan, action_named, arguments, cost_by, visited, last_state, Move, moves, steps_fit}
use Rattle.p3_task.specs.Constraints.{HardModal, satisfies, hard_list}
use Rattle.p3_task.specs.declared.task.Action.{Action}
use Rattle.p3_task.specs.declared.task.Step.{Step}
use Rattle.p3_task.specs.declared.task.Task.{Task}

-- the hard goal holds in the last state
unfoldable pub goal_holds : Task → Plan → Bool
goal_holds T plan = hard_holds T (last_state (visited T plan)) [] T.problem.goal.body

abbrev pub is_met : Task → Plan → HardModal → Bool
is_met T plan entry = satisfies T (visited T plan) entry.env entry.modal

-- each step fits, the goal holds, and each hard constraint is satisfied
unfoldable pub is_valid : Task → Plan → Bool
is_valid T plan = steps_fit T plan && goal_holds T plan && list_all (is_met T plan) (hard_list T)

abbrev pub Valid : Task → Plan → Type 0
Valid T plan = IsTrue (is_valid T plan)

-- ---- faults

-- why a step does not fit
pub data Misfit : Type 0 where
  UnknownAction Arguments Precondition NoCost : Misfit

-- the first kind that is the case
abbrev pub misfit_by : Task → State → Step → Option Action → Option Misfit
misfit_by T s step None = Some UnknownAction
misfit_by T s step (Some action) =
    if not (are_arguments T action.params step.args) then Some Arguments
    else (if not (hard_holds T s (arguments action step) action.pre.body) then Some Precondition
    else (if not (is_some (cost_by T step action)) then Some NoCost else None))

unfoldable pub misfit : Task → State → Step → Option Misfit
misfit T s step = misfit_by T s step (action_named T step.action)

-- steps are counted from 1, and hard constraints from 0
pub data Fault : Type 0 where
  AtStep : (number : ℕ) → (kind : Misfit) → Fault
  AtGoal : Fault
  AtConstraint : (number : ℕ) → Fault

abbrev pub fault_at : Task → ℕ × Move → Option Fault
fault_at T numbered = option_map (AtStep numbered.0) (misfit T numbered.1.state numbered.1.step)

-- the least step that does not fit
unfoldable pub step_fault : Task → Plan → Option Fault
step_fault T plan = slice_get (filter_map (fault_at T) (enumerate_from 1 (moves T plan))) 0

unfoldable pub goal_fault : Task → Plan → Option Fault
goal_fault T plan = if goal_holds T plan then None else Some AtGoal

-- the least number of an unsatisfied hard constraint
unfoldable pub constraint_fault : Task → Plan → Option Fault
constraint_fault T plan = option_map AtConstraint (position (λ entry. not (is_met T plan entry)) (hard_list T))

-- the steps come first, then the goal, then the constraints
unfoldable pub first_fault : Task → Plan → Option Fault
first_fault T plan = option_or (step_fault T plan) (option_or (goal_fault T plan) (constraint_fault T plan))
