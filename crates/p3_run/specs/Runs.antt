-- Runs of a ground task: what can be run, which step fits next, and what the steps done come to (the PDDL3 report).
use Rattle.std.specs.Prelude.{ℕ, ◌+◌, ◌^◌, ◌<◌, ◌≤◌, ℤ, pos, ◌+ℤ◌, neg_ℤ, Bool, not, if◌then◌else◌, List, [], ◌∷◌, ◌++◌, length, position, Option, Some, None, is_some, IfSome}
use Rattle.std.specs.Int.RustNames.{unsigned_abs}
use Rattle.std.specs.List.{All, list_all}
use Rattle.p3_base.specs.declared.refusal.Direction.{Direction}
use Rattle.p3_base.specs.declared.refusal.Direction.TheVariants.{Minimize, Maximize}
use Rattle.p3_formula.specs.Conditions.{IsReady}
use Rattle.p3_formula.specs.Forms.{State, truth}
use Rattle.p3_formula.specs.GroundPlans.{GroundPlan, step_of, ground_fits, ground_visited, ground_moves, last_of, ground_cost, ground_loss}
use Rattle.p3_formula.specs.GroundSat.{ground_sat}
use Rattle.p3_formula.specs.declared.target.Weights.{Weights}
use Rattle.p3_formula.specs.declared.task.GroundStep.{GroundStep}
use Rattle.p3_formula.specs.declared.task.GroundTask.{GroundTask}
use Rattle.p3_run.specs.declared.answers.Stepped.{Stepped}
use Rattle.p3_run.specs.declared.answers.Stepped.TheVariants.{Done, Precondition, NoCost}
use Rattle.p3_run.specs.declared.answers.Verdict.{Verdict}
use Rattle.p3_run.specs.declared.answers.Verdict.TheVariants.{Valid, Goal, Unmet}

-- ---- what can be run

-- as many steps a run has at most
abbrev pub most_steps : ℕ
most_steps = 1000000

abbrev pub most_prefs : ℕ
most_prefs = 50000000

abbrev pub HasSmallCost : GroundStep → Type 0
HasSmallCost step = IfSome step.cost (λ cost. cost < 10 ^ 27)

abbrev pub HasFewPrefs : GroundStep → Type 0
HasFewPrefs step = length step.prefs ≤ most_prefs

-- no sum of a run leaves 64 bits for counts, or 128 for costs and values
pub record CanBeRun (G : GroundTask) (weights : Weights) : Type 0 where
  pub ready : IsReady G weights
  pub costs : All HasSmallCost G.steps
  pub prefs : All HasFewPrefs G.steps
  pub base : unsigned_abs weights.base < 2 ^ 126

-- ---- the next step

-- why a step does not fit
pub data Misfit : Type 0 where
  FalsePrecondition MissingCost : Misfit

-- a step that is left out has a precondition that no state of a run meets
abbrev pub misfit_by : State → Option GroundStep → Option Misfit
misfit_by state None = Some FalsePrecondition
misfit_by state (Some step) = if not (truth state step.pre) then Some FalsePrecondition else (if not (is_some step.cost) then Some MissingCost else None)

abbrev pub ground_misfit : GroundTask → State → ℕ → Option Misfit
ground_misfit G state number = misfit_by state (step_of G number)

-- the step is done where nothing is amiss
abbrev pub stepped_by : Option Misfit → Stepped
stepped_by None = Done
stepped_by (Some FalsePrecondition) = Precondition
stepped_by (Some MissingCost) = NoCost

-- ---- what the steps done come to

-- the state that the steps lead to
unfoldable pub ground_state : GroundTask → GroundPlan → State
ground_state G plan = last_of (ground_visited G plan)

-- each step fits in the state before it
unfoldable pub ground_fit : GroundTask → GroundPlan → Bool
ground_fit G plan = list_all (λ (move : State × ℕ). ground_fits G move.0 move.1) (ground_moves G plan)

-- the least place of a hard constraint that is not satisfied
abbrev pub first_unmet : List State → GroundTask → Option ℕ
first_unmet W G = position (λ modal. not (ground_sat W modal)) G.hard

abbrev pub unmet_by : Option ℕ → Verdict
unmet_by None = Valid
unmet_by (Some place) = Unmet place

-- the goal comes before the constraints
unfoldable pub ground_verdict : GroundTask → GroundPlan → Verdict
ground_verdict G plan = if truth (ground_state G plan) G.goal then unmet_by (first_unmet (ground_visited G plan) G) else Goal

-- the total cost at the end
unfoldable pub ground_total : GroundTask → GroundPlan → ℕ
ground_total G plan = G.initial_cost + ground_cost G plan

abbrev pub signed_by : Direction → ℤ → ℤ
signed_by Minimize loss = loss
signed_by Maximize loss = neg_ℤ loss

-- the value of the metric, whose loss is the base with that of the plan
unfoldable pub ground_metric : GroundTask → Weights → GroundPlan → ℤ
ground_metric G weights plan = signed_by weights.direction (weights.base +ℤ pos (ground_loss G weights plan))

-- ---- a run

-- a task with its weights, and the numbers of the steps done, all of which fit
pub record Ran : Type 0 where
  pub task : GroundTask
  pub weights : Weights
  pub plan : GroundPlan

abbrev pub begun : GroundTask → Weights → Ran
begun G weights = record { task = G; weights = weights; plan = [] }

-- one step more where it is done, and else the same
abbrev pub ran_after : Ran → ℕ → Stepped → Ran
ran_after ran number Done = record { task = ran.task; weights = ran.weights; plan = ran.plan ++ number ∷ [] }
ran_after ran number Precondition = ran
ran_after ran number NoCost = ran
