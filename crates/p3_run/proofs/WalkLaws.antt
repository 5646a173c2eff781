-- One step more: the states that are visited, the moves, and the state that the steps lead to.
use Rattle.std.proofs.Common.{◌≡◌, ◌∙◌, ℕ, List, [], ◌∷◌, ◌++◌, length, refl, sym, ap, arith}
use Rattle.std.specs.Prelude.{zip}
use Rattle.p3_formula.specs.Forms.{State}
use Rattle.p3_formula.specs.GroundPlans.{GroundPlan, step_of, state_by, visited_from, ground_visited, ground_moves, last_of}
use Rattle.p3_formula.specs.declared.task.GroundTask.{GroundTask}
use Rattle.p3_formula.proofs.WatchedLaws.{last-next}
use Rattle.p3_run.specs.Runs.{ground_state}

module _ (G : GroundTask) where
  abbrev stepped : State → ℕ → State
  stepped state number = state_by state (step_of G number)

  -- the state that the steps lead to, and those before it
  abbrev pub reached : State → GroundPlan → State
  reached state [] = state
  reached state (number ∷ plan) = reached (stepped state number) plan

  abbrev pub front : State → GroundPlan → List State
  front state [] = []
  front state (number ∷ plan) = state ∷ front (stepped state number) plan

  visited_split : (state : State) (plan : GroundPlan) → visited_from G state plan ≡ front state plan ++ reached state plan ∷ []
  unfolding visited_from
  visited_split state [] = refl
  visited_split state (number ∷ plan) = ap (λ rest. state ∷ rest) (visited_split (stepped state number) plan)

  visited_one : (state : State) (plan : GroundPlan) (number : ℕ) → visited_from G state (plan ++ number ∷ []) ≡ visited_from G state plan ++ stepped (reached state plan) number ∷ []
  unfolding visited_from
  visited_one state [] number = refl
  visited_one state (one ∷ plan) number = ap (λ rest. state ∷ rest) (visited_one (stepped state one) plan number)

  moves_one : (state : State) (plan : GroundPlan) (number : ℕ)
      → zip (visited_from G state (plan ++ number ∷ [])) (plan ++ number ∷ []) ≡ zip (visited_from G state plan) plan ++ (reached state plan, number) ∷ []
  unfolding visited_from
  moves_one state [] number = refl
  moves_one state (one ∷ plan) number = ap (λ rest. (state, one) ∷ rest) (moves_one (stepped state one) plan number)

  moves_count : (state : State) (plan : GroundPlan) → length (zip (visited_from G state plan) plan) ≡ length plan
  unfolding visited_from
  moves_count state [] = refl
  moves_count state (number ∷ plan) = let h = moves_count (stepped state number) plan in omega (arith, h)

  pub state_is : (plan : GroundPlan) → ground_state G plan ≡ reached G.initial plan
  unfolding ground_state
  state_is plan = ap last_of (visited_split G.initial plan) ∙ last-next (front G.initial plan) (reached G.initial plan)

  -- the last of the states visited is the one that the steps lead to
  pub visited_ends : (plan : GroundPlan) → ground_visited G plan ≡ front G.initial plan ++ ground_state G plan ∷ []
  visited_ends plan = visited_split G.initial plan ∙ ap (λ state. front G.initial plan ++ state ∷ []) (sym (state_is plan))

  pub visited_more : (plan : GroundPlan) (number : ℕ) → ground_visited G (plan ++ number ∷ []) ≡ ground_visited G plan ++ stepped (ground_state G plan) number ∷ []
  visited_more plan number = visited_one G.initial plan number ∙ ap (λ state. ground_visited G plan ++ stepped state number ∷ []) (sym (state_is plan))

  pub state_more : (plan : GroundPlan) (number : ℕ) → ground_state G (plan ++ number ∷ []) ≡ stepped (ground_state G plan) number
  unfolding ground_state
  state_more plan number = ap last_of (visited_more plan number) ∙ last-next (ground_visited G plan) (stepped (ground_state G plan) number)

  pub moves_more : (plan : GroundPlan) (number : ℕ) → ground_moves G (plan ++ number ∷ []) ≡ ground_moves G plan ++ (ground_state G plan, number) ∷ []
  moves_more plan number = moves_one G.initial plan number ∙ ap (λ state. ground_moves G plan ++ (state, number) ∷ []) (sym (state_is plan))

  pub length-moves : (plan : GroundPlan) → length (ground_moves G plan) ≡ length plan
  length-moves plan = moves_count G.initial plan

  pub state_none : ground_state G [] ≡ G.initial
  state_none = state_is []

  pub visited_none : ground_visited G [] ≡ G.initial ∷ []
  visited_none = visited_split G.initial []
