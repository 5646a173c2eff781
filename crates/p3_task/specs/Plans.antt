-- Steps, when they fit, and the states that a plan visits.
use Rattle.std.specs.Prelude.{◌≡◌, ℕ, ◌-◌, Bool, false, ◌&&◌, List, [], ◌∷◌, length, slice_index_or, find, Option, Some, None, is_some, option_and_then, IsTrue}
use Rattle.std.specs.List.{list_all}
use Rattle.p3_task.specs.Names.{Name, same_name}
use Rattle.p3_task.specs.States.{State, Environment, has_fact, start}
use Rattle.p3_task.specs.Bindings.{extended, are_arguments}
use Rattle.p3_task.specs.Effects.{next}
use Rattle.p3_task.specs.Goals.{hard_holds}
use Rattle.p3_task.specs.Costs.{effect_cost}
use Rattle.p3_task.specs.declared.state.Fact.{Fact}
use Rattle.p3_task.specs.declared.task.Action.{Action}
use Rattle.p3_task.specs.declared.task.Step.{Step}
use Rattle.p3_task.specs.declared.task.Task.{Task}

abbrev pub Plan : Type 0
Plan = List Step

-- the action of that name
unfoldable pub action_named : Task → Name → Option Action
action_named T name = find (λ action. same_name action.name.name name) T.domain.actions

-- the parameters bound to the arguments of a step
abbrev pub arguments : Action → Step → Environment
arguments action step = extended [] action.params step.args

-- ---- one step, given its action where there is one

abbrev pub cost_by : Task → Step → Action → Option ℕ
cost_by T step action = effect_cost T (arguments action step) action.effect.body

abbrev pub fits_by : Task → State → Step → Option Action → Bool
fits_by T s step None = false
fits_by T s step (Some action) = are_arguments T action.params step.args && hard_holds T s (arguments action step) action.pre.body && is_some (cost_by T step action)

abbrev pub state_by : Task → State → Step → Option Action → State
state_by T s step None = s
state_by T s step (Some action) = next T s (arguments action step) action.effect.body

-- what the step costs, where each value that it reads is given
unfoldable pub step_cost : Task → Step → Option ℕ
step_cost T step = option_and_then (cost_by T step) (action_named T step.action)

-- the action exists, the arguments are objects of its parameters' types, the hard precondition holds, and the step has a cost
unfoldable pub fits : Task → State → Step → Bool
fits T s step = fits_by T s step (action_named T step.action)

-- the state after the step
unfoldable pub state_after : Task → State → Step → State
state_after T s step = state_by T s step (action_named T step.action)

-- ---- plans

-- the states that the plan visits from one state on
abbrev pub visited_from : Task → State → Plan → List State
visited_from T s [] = s ∷ []
visited_from T s (step ∷ plan) = s ∷ visited_from T (state_after T s step) plan

-- the initial state, and the state after each step
unfoldable pub visited : Task → Plan → List State
visited T plan = visited_from T (start T) plan

-- the state at a place, counted from 0
abbrev pub state_at : List State → ℕ → State
state_at W i = slice_index_or W i []

abbrev pub last_state : List State → State
last_state W = state_at W (length W - 1)

-- a step, with the state in which it is done
pub record Move : Type 0 where
  pub state : State
  pub step : Step

abbrev pub moves_from : Task → State → Plan → List Move
moves_from T s [] = []
moves_from T s (step ∷ plan) = record { state = s; step = step } ∷ moves_from T (state_after T s step) plan

-- each step of the plan, with the state before it
abbrev pub moves : Task → Plan → List Move
moves T plan = moves_from T (start T) plan

-- each step fits in the state before it
unfoldable pub steps_fit : Task → Plan → Bool
steps_fit T plan = list_all (λ (move : Move). fits T move.state move.step) (moves T plan)

-- the states that fitting steps lead to
pub record Reached (T : Task) (s : State) : Type 0 where
  pub plan : Plan
  pub fit : IsTrue (steps_fit T plan)
  -- of a state only the membership counts
  pub last : (fact : Fact) → has_fact s fact ≡ has_fact (last_state (visited T plan)) fact
