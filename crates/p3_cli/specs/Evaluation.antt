-- What `evaluate` makes of the texts of a task and of a plan for it.
use Rattle.std.specs.Prelude.{ℕ, ◌≡◌, ◌≤◌, ◌⊎◌, List, [], ◌∷◌, length, Some}
use Rattle.p3_base.specs.declared.refusal.Side.TheVariants.{Source}
use Rattle.p3_task.specs.Plans.{Plan}
use Rattle.p3_task.specs.PlanTexts.{IsPlanText, step_limit}
use Rattle.p3_task.specs.Refusals.First.{AreAccepted, Given}
use Rattle.p3_tree.specs.Reports.Plans.{evaluated_lines}
use Rattle.p3_task.specs.Validity.{Fault, Valid, first_fault}
use Rattle.p3_task.specs.declared.task.Task.{Task}
use Rattle.p3_reports.specs.Faults.{fault_named}
use Rattle.p3_cli.specs.Ending.{Ending, Invalid}
use Rattle.p3_cli.specs.Refusing.{IsRefusal, IsRejectedBy}
use Rattle.p3_cli.specs.Texts.{AllTexts, task_texts}
use Rattle.p3_cli.specs.declared.ending.Ending as code

-- ---- of the texts

-- the texts of a task and of a plan for it
abbrev pub given_plan : AllTexts → Given
given_plan texts = record { tasks = task_texts Source texts ∷ []; plans = texts.plan ∷ [] }

-- nothing is refused of d, p and q, which are the texts of the task and of the plan
pub record AreOfPlan (d p q : List ℕ) (task : Task) (plan : Plan) : Type 0 where
  pub accepted : AreAccepted Source d p task
  pub spelled : IsPlanText q plan
  pub few : length plan ≤ step_limit

-- the plan is valid, and the report tells of it
pub record IsEvaluation (d p q report : List ℕ) : Type 0 where
  pub task : Task
  pub plan : Plan
  pub texts : AreOfPlan d p q task plan
  pub valid : Valid task plan
  pub told : report ≡ evaluated_lines task plan

-- the plan is not valid, and the ending says its first fault
pub record IsInvalidPlan (d p q : List ℕ) (how : Ending) : Type 0 where
  pub task : Task
  pub plan : Plan
  pub texts : AreOfPlan d p q task plan
  pub fault : Fault
  pub first : first_fault task plan ≡ Some fault
  pub says : how ≡ Invalid (fault_named fault)

-- the ending says why there is no report: the first refusal of the texts, or the first fault of the plan
abbrev pub RejectsPlan : AllTexts → Ending → Type 0
RejectsPlan texts how = IsRefusal (given_plan texts) texts how ⊎ IsInvalidPlan texts.domain texts.problem texts.plan how

abbrev pub IsRejectedPlan : AllTexts → code.Ending → Type 0
IsRejectedPlan texts how = IsRejectedBy (RejectsPlan texts) how

-- ---- of an accepted task and a plan for it

-- the plan is valid, and the report tells of it
pub record IsReportOf (T : Task) (report : List ℕ) (plan : Plan) : Type 0 where
  pub valid : Valid T plan
  pub told : report ≡ evaluated_lines T plan

-- the ending says the first fault of the plan
pub record IsFaultOf (T : Task) (how : Ending) (plan : Plan) : Type 0 where
  pub fault : Fault
  pub first : first_fault T plan ≡ Some fault
  pub says : how ≡ Invalid (fault_named fault)
