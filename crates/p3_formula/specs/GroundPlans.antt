-- Ground plans: when they are valid, how often they violate each preference name, and their loss (the PDDL3 report, over numbered steps).
use Rattle.std.specs.Prelude.{ℕ, ◌+◌, ◌*◌, ◌-◌, ◌==◌, Bool, false, not, ◌&&◌, List, [], ◌∷◌, length, find, sum_by, count_by, slice_index_or, zip, Option, Some, None, is_some, unwrap_or, IsTrue}
use Rattle.std.specs.List.{list_all, range_with_len}
use Rattle.p3_formula.specs.Forms.{State, truth}
use Rattle.p3_formula.specs.Next.{after}
use Rattle.p3_formula.specs.GroundSat.{ground_sat}
use Rattle.p3_formula.specs.declared.modal.GroundPref.{GroundPref}
use Rattle.p3_formula.specs.declared.modal.GroundSoft.{GroundSoft}
use Rattle.p3_formula.specs.declared.target.Weights.{Weights}
use Rattle.p3_formula.specs.declared.task.GroundStep.{GroundStep}
use Rattle.p3_formula.specs.declared.task.GroundTask.{GroundTask}

-- the numbers of its steps
abbrev pub GroundPlan : Type 0
GroundPlan = List ℕ

-- the step of that number, where it is kept
abbrev pub step_of : GroundTask → ℕ → Option GroundStep
step_of G number = find (λ step. step.number == number) G.steps

-- ---- fitting steps, and the states that are visited

abbrev pub fits_by : State → Option GroundStep → Bool
fits_by state None = false
fits_by state (Some step) = truth state step.pre && is_some step.cost

-- the step is kept, its hard precondition holds, and it has a cost
abbrev pub ground_fits : GroundTask → State → ℕ → Bool
ground_fits G state number = fits_by state (step_of G number)

abbrev pub state_by : State → Option GroundStep → State
state_by state None = state
state_by state (Some step) = after state step.effects

-- the states from one on, which comes first
unfoldable pub visited_from : GroundTask → State → GroundPlan → List State
visited_from G state [] = state ∷ []
visited_from G state (number ∷ plan) = state ∷ visited_from G (state_by state (step_of G number)) plan

abbrev pub ground_visited : GroundTask → GroundPlan → List State
ground_visited G plan = visited_from G G.initial plan

abbrev pub last_of : List State → State
last_of W = slice_index_or W (length W - 1) []

-- each step with the state before it
abbrev pub ground_moves : GroundTask → GroundPlan → List (State × ℕ)
ground_moves G plan = zip (ground_visited G plan) plan

-- ---- validity

-- each step fits, the goal holds at the end, and each hard constraint is satisfied
unfoldable pub is_ground_valid : GroundTask → GroundPlan → Bool
is_ground_valid G plan =
    list_all (λ (move : State × ℕ). ground_fits G move.0 move.1) (ground_moves G plan) && truth (last_of (ground_visited G plan)) G.goal
    && list_all (ground_sat (ground_visited G plan)) G.hard

abbrev pub GroundValid : GroundTask → GroundPlan → Type 0
GroundValid G plan = IsTrue (is_ground_valid G plan)

-- ---- counts and loss

-- an unnamed preference enters no count
abbrev pub is_numbered : ℕ → Option ℕ → Bool
is_numbered name None = false
is_numbered name (Some other) = other == name

abbrev pub false_prefs : State → ℕ → Option GroundStep → ℕ
false_prefs state name None = 0
false_prefs state name (Some step) = count_by (λ (pref : GroundPref). is_numbered name pref.name && not (truth state pref.body)) step.prefs

-- the instances of the name with an unsatisfied part, and for each step its preferences of the name that are false in the state before it
unfoldable pub ground_violated : GroundTask → GroundPlan → ℕ → ℕ
ground_violated G plan name =
    count_by (λ (soft : GroundSoft). is_numbered name soft.name && not (list_all (ground_sat (ground_visited G plan)) soft.parts)) G.soft
    + sum_by (λ (move : State × ℕ). false_prefs move.0 name (step_of G move.1)) (ground_moves G plan)

abbrev pub cost_by : Option GroundStep → ℕ
cost_by None = 0
cost_by (Some step) = unwrap_or step.cost 0

-- how much the total cost grows
unfoldable pub ground_cost : GroundTask → GroundPlan → ℕ
ground_cost G plan = sum_by (λ number. cost_by (step_of G number)) plan

-- the weighted sum of the cost and the counts: the loss above the base
unfoldable pub ground_loss : GroundTask → Weights → GroundPlan → ℕ
ground_loss G weights plan = weights.total_cost * ground_cost G plan + sum_by (λ name. slice_index_or weights.by_name name 0 * ground_violated G plan name) (range_with_len 0 (length weights.by_name))
