-- What a run of a ground task tells of the tasks that it is of.
use Prim.{∥◌∥₁}
use Rattle.std.specs.Prelude.{◌≡◌, ℕ, ◌+◌, true, ◌∷◌, ◌++◌, length, Option, Some, None, IsTrue}
use Rattle.p3_base.specs.declared.refusal.Side.{Side}
use Rattle.p3_task.specs.Offences.{WellFormed}
use Rattle.p3_task.specs.Plans.{Plan, last_state, visited}
use Rattle.p3_task.specs.Refusals.First.{task_refusal}
use Rattle.p3_task.specs.StepNumbers.{HasNumber}
use Rattle.p3_task.specs.Validity as fault
use Rattle.p3_task.specs.Validity.{AtConstraint, AtGoal, AtStep, Fault, Misfit, first_fault, misfit}
use Rattle.p3_task.specs.declared.task.Step.{Step}
use Rattle.p3_task.specs.declared.task.Task.{Task}
use Rattle.p3_formula.specs.declared.target.Weights.{Weights}
use Rattle.p3_formula.specs.declared.task.GroundTask.{GroundTask}
use Rattle.p3_types.specs.Texts.{has_short_numbers}
use Rattle.p3_ground.specs.PlansByNumber.{AreNumbers}
use Rattle.p3_ground.specs.StandsFor.{LeftOutAt, StandsIn}
use Rattle.p3_metric.specs.Weighed.{HasWeights}
use Rattle.p3_run.specs.Runs.{Ran, ground_fit}
use Rattle.p3_run.specs.declared.answers.Stepped.{Stepped}
use Rattle.p3_run.specs.declared.answers.Stepped.TheVariants.{Done, Precondition, NoCost}
use Rattle.p3_run.specs.declared.answers.Verdict.{Verdict}
use Rattle.p3_run.specs.declared.answers.Verdict.TheVariants.{Valid, Goal, Unmet}

-- ---- a task with what belongs to it

-- the task is well-formed, its numbers are short, and nothing is refused of it on that side; the ground task stands for it in the steps that it has, and the weights are its own
pub record BelongTogether (T : Task) (G : GroundTask) (w : Weights) : Type 0 where
  pub side : Side
  pub well : WellFormed T
  pub short : IsTrue (has_short_numbers side T)
  pub accepted : task_refusal side T ≡ None
  pub stands : ∥ StandsIn T G ∥₁
  pub weights : ∥ HasWeights T w ∥₁

-- there is such a task
pub record HasTask (G : GroundTask) (w : Weights) : Type 0 where
  pub task : Task
  pub together : BelongTogether task G w

-- ---- plans by the numbers of their steps

-- it is so of each task that the run is of, and of the plan of the steps done
abbrev pub OfItsPlan : Ran → (Task → Plan → Type 0) → Type 0
OfItsPlan ran Says = (T : Task) → BelongTogether T ran.task ran.weights → (plan : Plan) → AreNumbers T plan ran.plan → Says T plan

-- it is so of the plan of the steps that a run of this task has done
abbrev pub OfRun : Task → Ran → (Plan → Type 0) → Type 0
OfRun T ran Says = (plan : Plan) → AreNumbers T plan ran.plan → Says plan

-- it is so of the step of that number, too, where it is there or can begin in no reached state
abbrev pub OfItsStep : Ran → ℕ → (Task → Plan → Step → Type 0) → Type 0
OfItsStep ran number Says = OfItsPlan ran (λ T plan. LeftOutAt T ran.task number → (step : Step) → HasNumber T step number → Says T plan step)

-- ---- answers

-- why the step does not fit
abbrev pub misfit_of : Stepped → Option Misfit
misfit_of Done = None
misfit_of Precondition = Some fault.Precondition
misfit_of NoCost = Some fault.NoCost

-- in the state behind the plan it is so of the step
abbrev pub IsStepped : Stepped → Task → Plan → Step → Type 0
IsStepped stepped T plan step = misfit T (last_state (visited T plan)) step ≡ misfit_of stepped

-- however the plan goes on with the step, this is its first fault
abbrev pub IsFaultOfAll : Stepped → Task → Plan → Step → Type 0
IsFaultOfAll stepped T plan step = (rest : Plan) (kind : Misfit) → misfit_of stepped ≡ Some kind → first_fault T (plan ++ step ∷ rest) ≡ Some (AtStep (length plan + 1) kind)

-- the first fault of a plan whose steps fit
abbrev pub fault_of : Verdict → Option Fault
fault_of Valid = None
fault_of Goal = Some AtGoal
fault_of (Unmet place) = Some (AtConstraint place)

-- ---- what each run keeps

-- the steps done fit, and each preference name has a weight
pub record IsRun (ran : Ran) : Type 0 where
  pub fit : ground_fit ran.task ran.plan ≡ true
  pub names : length ran.weights.by_name ≡ ran.task.names
