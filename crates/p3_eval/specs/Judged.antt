-- Faults as values of the code, and what judging one step more tells of a plan.
use Rattle.std.specs.Prelude.{◌≡◌, ℕ, ◌+◌, ◌≤◌, List, ◌∷◌, ◌++◌, length, Option, Some, None, option_map}
use Rattle.p3_task.specs.Plans.{Plan, last_state, visited}
use Rattle.p3_task.specs.Validity as why
use Rattle.p3_task.specs.Validity.{AtConstraint, AtGoal, AtStep, Fault, first_fault, misfit}
use Rattle.p3_task.specs.declared.task.Step.{Step}
use Rattle.p3_task.specs.declared.task.Task.{Task}
use Rattle.p3_types.specs.Finds.{IsFound}
use Rattle.p3_types.specs.declared.finding.Found.{Found}
use Rattle.p3_types.specs.declared.finding.Found.TheVariants.{Number, UnknownAction, Arguments}
use Rattle.p3_formula.specs.declared.task.GroundTask.{GroundTask}
use Rattle.p3_ground.specs.PlansByNumber.{AreAsked, AreNumbers}
use Rattle.p3_ground.specs.StandsFor.{LeftOutAt}
use Rattle.p3_run.specs.Runs.{Ran, ran_after}
use Rattle.p3_run.specs.declared.answers.Stepped.{Stepped}
use Rattle.p3_run.specs.declared.answers.Stepped.TheVariants.{Done, Precondition, NoCost}
use Rattle.p3_eval.specs.Runs.{OfItsPlan}
use Rattle.p3_eval.specs.declared.fault.FaultKind.{FaultKind}
use Rattle.p3_eval.specs.declared.fault.FaultKind.TheVariants as kind
use Rattle.p3_eval.specs.declared.fault.PlanFault.{PlanFault}

-- which fault of the definitions it is
abbrev pub fault_by : ℕ → FaultKind → Fault
fault_by step kind.UnknownAction = AtStep step why.UnknownAction
fault_by step kind.Arguments = AtStep step why.Arguments
fault_by step kind.Precondition = AtStep step why.Precondition
fault_by step kind.NoCost = AtStep step why.NoCost
fault_by step kind.Goal = AtGoal
fault_by step (kind.Unmet place) = AtConstraint place

abbrev pub fault_in : PlanFault → Fault
fault_in fault = fault_by fault.step fault.kind

-- a step is counted from 1, and 0 stands for the step of the goal and of constraints
abbrev pub IsStepOf : FaultKind → ℕ → Type 0
IsStepOf kind.UnknownAction step = 1 ≤ step
IsStepOf kind.Arguments step = 1 ≤ step
IsStepOf kind.Precondition step = 1 ≤ step
IsStepOf kind.NoCost step = 1 ≤ step
IsStepOf kind.Goal step = step ≡ 0
IsStepOf (kind.Unmet place) step = step ≡ 0

abbrev pub HasItsStep : PlanFault → Type 0
HasItsStep fault = IsStepOf fault.kind fault.step

-- the fault of a step that was tried, if it has one
abbrev pub fault_of_step : ℕ → Stepped → Option PlanFault
fault_of_step step Done = None
fault_of_step step Precondition = Some (record { step = step; kind = kind.Precondition })
fault_of_step step NoCost = Some (record { step = step; kind = kind.NoCost })

-- ---- one step more

-- without a fault the step fits behind the plan; and else it is the first fault of each plan that goes on with it
abbrev pub TellsOf : Option PlanFault → Task → Plan → Step → Type 0
TellsOf None T plan step = misfit T (last_state (visited T plan)) step ≡ None
TellsOf (Some fault) T plan step = (rest : Plan) → first_fault T (plan ++ step ∷ rest) ≡ Some (fault_in fault)

-- why the step does not fit behind the plan, if it does not: its fault is of the step of that number
abbrev pub NamesMisfit : Option PlanFault → Task → Plan → Step → Type 0
NamesMisfit fault T plan step = option_map fault_in fault ≡ option_map (AtStep (length plan + 1)) (misfit T (last_state (visited T plan)) step)

-- where the step that is found has a number, it is there or can begin in no reached state
abbrev pub IsAskedFound : Task → GroundTask → Found → Type 0
IsAskedFound T G (Number number) = LeftOutAt T G number
IsAskedFound T G UnknownAction = Unit {0}
IsAskedFound T G Arguments = Unit {0}

-- it is so of each step that is found so
abbrev pub NamesMisfitOfFound : Ran → Found → Option PlanFault → Type 0
NamesMisfitOfFound ran found fault = OfItsPlan ran (λ T plan. IsAskedFound T ran.task found → (step : Step) → IsFound T step found → NamesMisfit fault T plan step)

abbrev pub TellsOfFound : Ran → Found → Option PlanFault → Type 0
TellsOfFound ran found fault = OfItsPlan ran (λ T plan. IsAskedFound T ran.task found → (step : Step) → IsFound T step found → TellsOf fault T plan step)

-- so many steps are found, with the one that has no number
abbrev pub found_count : List ℕ → Option Found → ℕ
found_count numbers None = length numbers
found_count numbers (Some found) = length numbers + 1

-- the step is done where it has no fault
abbrev pub ran_with : Ran → Found → Option PlanFault → Ran
ran_with ran (Number number) None = ran_after ran number Done
ran_with ran (Number number) (Some fault) = ran
ran_with ran UnknownAction fault = ran
ran_with ran Arguments fault = ran

-- ---- a whole plan

-- a run of the same parts that has done these steps
pub record HasDone (T : Task) (plan : Plan) (before now : Ran) : Type 0 where
  pub task : now.task ≡ before.task
  pub weights : now.weights ≡ before.weights
  pub numbers : AreNumbers T plan now.plan
  pub asked : AreAsked T now.task plan now.plan

-- the first fault of the plan; and where it has none, all its steps are done
pub record IsJudged (T : Task) (plan : Plan) (before now : Ran) (found : Option PlanFault) : Type 0 where
  pub fault : first_fault T plan ≡ option_map fault_in found
  pub done : found ≡ None → HasDone T plan before now
