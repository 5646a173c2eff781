-- Plans of a task and ground plans of a ground task that stands for it: the numbers of the steps, and what agrees.
use Rattle.std.specs.Prelude.{◌≡◌, ℕ, ◌+◌, ◌*◌, pos, Bool, List, [], map, length, slice_get, slice_index_or, sum_by, Some}
use Rattle.std.specs.List.{list_all, range_with_len, AllZip}
use Rattle.p3_task.specs.Names.{Name, is_empty}
use Rattle.p3_task.specs.Costs.{initial_cost}
use Rattle.p3_task.specs.Plans.{Plan}
use Rattle.p3_task.specs.Metrics.{violated, cost, weight}
use Rattle.p3_task.specs.PreferenceNames.{ordered_names}
use Rattle.p3_task.specs.StepNumbers.{HasNumber}
use Rattle.p3_task.specs.declared.task.Step.{Step}
use Rattle.p3_task.specs.declared.task.Task.{Task}
use Rattle.p3_formula.specs.GroundPlans.{GroundPlan, GroundValid, ground_violated, ground_cost}
use Rattle.p3_formula.specs.declared.task.GroundTask.{GroundTask}
use Rattle.p3_ground.specs.StandsFor.{IsAsked}

-- each step of the plan is a step of the task, and has the number at its place
abbrev pub AreNumbers : Task → Plan → GroundPlan → Type 0
AreNumbers T plan numbers = AllZip (HasNumber T) plan numbers

-- each step of the plan has the number at its place, and is there or can begin in no reached state
abbrev pub AreAsked : Task → GroundTask → Plan → GroundPlan → Type 0
AreAsked T G plan numbers = AllZip (IsAsked T G) plan numbers

-- all steps of the plan are steps of the task, and the list of their numbers is a valid ground plan
pub record HasValidNumbers (T : Task) (G : GroundTask) (plan : Plan) : Type 0 where
  pub numbers : GroundPlan
  pub are : AreNumbers T plan numbers
  pub valid : GroundValid G numbers

-- each preference name is violated as often, and the costs are the same
pub record CountsAgree (T : Task) (G : GroundTask) (plan : Plan) (numbers : GroundPlan) : Type 0 where
  pub counts : (place : ℕ) (name : Name) → slice_get (ordered_names T) place ≡ Some name → violated T plan name ≡ ground_violated G numbers place
  pub costs : cost T plan ≡ initial_cost T + ground_cost G numbers

-- the weight of each preference name stands at its place
abbrev pub HasNameWeights : Task → List ℕ → Type 0
HasNameWeights T by_name = (place : ℕ) (name : Name) → slice_get (ordered_names T) place ≡ Some name → pos (slice_index_or by_name place 0) ≡ weight T name

-- what the violations of a plan weigh: each name's count times its weight
abbrev pub weighed_violations : Task → List ℕ → Plan → ℕ
weighed_violations T by_name plan = sum_by (λ place. slice_index_or by_name place 0 * violated T plan (slice_index_or (ordered_names T) place [])) (range_with_len 0 (length by_name))

-- ---- plans of a written task

-- no step has arguments
abbrev pub are_bare : Plan → Bool
are_bare written = list_all (λ (step : Step). is_empty step.args) written

abbrev pub names_of : Plan → List Name
names_of written = map (λ (step : Step). step.action) written
