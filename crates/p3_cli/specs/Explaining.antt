-- What `explain` makes of the texts of a task and of a plan for it.
use Rattle.std.specs.Prelude.{ℕ, ◌≡◌, ◌⊎◌, List, Some, None}
use Rattle.p3_task.specs.Plans.{Plan}
use Rattle.p3_tree.specs.Reports.Explanations.{explained_lines}
use Rattle.p3_task.specs.Validity.{Fault, step_fault}
use Rattle.p3_task.specs.declared.task.Task.{Task}
use Rattle.p3_reports.specs.Faults.{fault_named}
use Rattle.p3_eval.specs.Judged.{fault_in}
use Rattle.p3_explain.specs.declared.error.ExplainFail.{ExplainFail}
use Rattle.p3_explain.specs.declared.error.ExplainFail.TheVariants as fail
use Rattle.p3_cli.specs.Ending.{Ending, Invalid}
use Rattle.p3_cli.specs.Evaluation.{AreOfPlan, given_plan}
use Rattle.p3_cli.specs.Refusing.{IsRefusal, IsRejectedBy}
use Rattle.p3_cli.specs.Texts.{AllTexts}
use Rattle.p3_cli.specs.declared.ending.Ending as code

-- ---- of an accepted task and a plan for it

-- every step fits, and the report explains the plan
pub record IsExplained (T : Task) (report : List ℕ) (plan : Plan) : Type 0 where
  pub fit : step_fault T plan ≡ None
  pub told : report ≡ explained_lines T plan

-- a step does not fit, and the ending says the first such fault
pub record IsUnfit (T : Task) (how : Ending) (plan : Plan) : Type 0 where
  pub fault : Fault
  pub first : step_fault T plan ≡ Some fault
  pub says : how ≡ Invalid (fault_named fault)

-- the ending says why
abbrev pub TellsFail : ExplainFail → Ending → Type 0
TellsFail (fail.Fault told) how = how ≡ Invalid (fault_named (fault_in told))
TellsFail fail.NoMemory how = ⊥

-- ---- of the texts

-- nothing is refused of d, p and q, every step of the plan fits, and the report explains it
pub record IsExplanation (d p q report : List ℕ) : Type 0 where
  pub task : Task
  pub plan : Plan
  pub texts : AreOfPlan d p q task plan
  pub explained : IsExplained task report plan

-- a step of the plan does not fit, and the ending says so
pub record IsUnfitPlan (d p q : List ℕ) (how : Ending) : Type 0 where
  pub task : Task
  pub plan : Plan
  pub texts : AreOfPlan d p q task plan
  pub unfit : IsUnfit task how plan

-- the ending says why nothing is explained: the first refusal of the texts, or the first step that does not fit
abbrev pub RejectsExplaining : AllTexts → Ending → Type 0
RejectsExplaining texts how = IsRefusal (given_plan texts) texts how ⊎ IsUnfitPlan texts.domain texts.problem texts.plan how

abbrev pub IsUnexplained : AllTexts → code.Ending → Type 0
IsUnexplained texts how = IsRejectedBy (RejectsExplaining texts) how
