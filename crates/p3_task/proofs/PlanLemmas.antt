-- A plan walked step by step, for inductions: the definitions range over the whole list of visited states.
use Rattle.std.proofs.Common.{◌≡◌, ◌∙◌, ℕ, ◌+◌, ◌-◌, suc, refl, ap, Bool, true, ◌&&◌, [], ◌∷◌, length, get_or, arith}
use Rattle.std.specs.Prelude.{unwrap_or}
use Rattle.std.specs.List.{list_all}
use Rattle.p3_task.specs.States.{State, start}
use Rattle.p3_task.specs.Plans.{Plan, fits, state_after, step_cost, visited, visited_from, last_state, Move, moves_from, steps_fit}
use Rattle.p3_task.specs.declared.task.Task.{Task}

module _ (T : Task) where
  -- the steps fit, from a state on
  abbrev pub fit_from : State → Plan → Bool
  fit_from s [] = true
  fit_from s (step ∷ plan) = fits T s step && fit_from (state_after T s step) plan

  -- the state that a plan leads to
  abbrev pub state_from : State → Plan → State
  state_from s [] = s
  state_from s (step ∷ plan) = state_from (state_after T s step) plan

  -- what the steps cost
  abbrev pub cost_of : Plan → ℕ
  cost_of [] = 0
  cost_of (step ∷ plan) = unwrap_or (step_cost T step) 0 + cost_of plan

  all_moves : (s : State) (plan : Plan) → list_all (λ (move : Move). fits T move.state move.step) (moves_from T s plan) ≡ fit_from s plan
  all_moves s [] = refl
  all_moves s (step ∷ plan) = ap (λ rest. fits T s step && rest) (all_moves (state_after T s step) plan)

  pub steps_fit-walk : (plan : Plan) → steps_fit T plan ≡ fit_from (start T) plan
  unfolding steps_fit
  steps_fit-walk plan = all_moves (start T) plan

  pub length-visited_from : (s : State) (plan : Plan) → length (visited_from T s plan) ≡ suc (length plan)
  length-visited_from s [] = refl
  length-visited_from s (step ∷ plan) = ap suc (length-visited_from (state_after T s step) plan)

  at_length : (s : State) (plan : Plan) → get_or (visited_from T s plan) (length plan) [] ≡ state_from s plan
  at_length s [] = refl
  at_length s (step ∷ plan) = at_length (state_after T s step) plan

  pub last_state-walk : (plan : Plan) → last_state (visited T plan) ≡ state_from (start T) plan
  unfolding visited
  last_state-walk plan =
      let place : length (visited_from T (start T) plan) - 1 ≡ length plan = omega (arith, length-visited_from (start T) plan) in
      ap (λ i. get_or (visited_from T (start T) plan) i []) place ∙ at_length (start T) plan
