-- What `lift` makes of the texts of a task, of one that is written for it, and of a plan for that.
use Rattle.std.specs.Prelude.{ℕ, ◌≡◌, ◌≤◌, ◌⊎◌, List, [], ◌∷◌, length}
use Rattle.p3_base.specs.declared.refusal.Side.TheVariants.{Source, Written}
use Rattle.p3_task.specs.Plans.{Plan}
use Rattle.p3_task.specs.PlanTexts.{IsPlanText, step_limit}
use Rattle.p3_task.specs.Refusals.First.{AreAccepted, Given}
use Rattle.p3_tree.specs.Reports.Plans.{lifted_lines}
use Rattle.p3_reports.specs.Faults.{fault_named}
use Rattle.p3_reports.specs.declared.refusal.Rejection.{Rejection}
use Rattle.p3_reports.specs.declared.refusal.Rejection.TheVariants.{LiftedFault, NotPlain, NumbersDiffer}
use Rattle.p3_task.specs.declared.task.Task.{Task}
use Rattle.p3_eval.specs.Judged.{fault_in}
use Rattle.p3_lift.specs.Lifting.{IsLiftFail, IsLifted}
use Rattle.p3_lift.specs.declared.answers.Differ.{Differ}
use Rattle.p3_lift.specs.declared.answers.Differ.TheVariants.{Fault, Numbers}
use Rattle.p3_lift.specs.declared.answers.LiftFail.{LiftFail}
use Rattle.p3_lift.specs.declared.answers.LiftFail.TheVariants as fail
use Rattle.p3_lift.specs.declared.answers.Lifted.{Lifted}
use Rattle.p3_cli.specs.Ending.{Ending, Invalid, Refused}
use Rattle.p3_cli.specs.Refusing.{IsRefusal}
use Rattle.p3_cli.specs.Texts.{AllTexts, task_texts}

-- ---- of the texts

-- the texts of both tasks and of a plan
abbrev pub given_lift : AllTexts → Given
given_lift texts = record { tasks = task_texts Source texts ∷ task_texts Written texts ∷ []; plans = texts.plan ∷ [] }

-- nothing is refused of the texts, which are those of the two tasks and of the plan
pub record AreOfLift (texts : AllTexts) (T U : Task) (plan : Plan) : Type 0 where
  pub source : AreAccepted Source texts.domain texts.problem T
  pub written : AreAccepted Written texts.written_domain texts.written_problem U
  pub spelled : IsPlanText texts.plan plan
  pub few : length plan ≤ step_limit

-- nothing is refused of the texts, whose plan is lifted; the text spells the lifted plan, and the report tells of it
pub record IsLifting (texts : AllTexts) (text report : List ℕ) : Type 0 where
  pub task : Task
  pub written : Task
  pub plan : Plan
  pub of : AreOfLift texts task written plan
  pub lifted : Lifted
  pub is : IsLifted task written plan lifted
  pub spelled : IsPlanText text lifted.plan
  pub told : report ≡ lifted_lines task lifted.plan lifted.cost

-- ---- why nothing is lifted

-- how the lifted plan differs
abbrev pub differ_rejection : Differ → Rejection
differ_rejection (Fault told) = LiftedFault (fault_named (fault_in told))
differ_rejection (Numbers cost loss) = NumbersDiffer cost loss

-- the ending says why
abbrev pub TellsFail : LiftFail → Ending → Type 0
TellsFail fail.NotPlain how = how ≡ Refused NotPlain
TellsFail (fail.Invalid told) how = how ≡ Invalid (fault_named (fault_in told))
TellsFail (fail.Mismatch differ) how = how ≡ Refused (differ_rejection differ)
TellsFail fail.NoMemory how = ⊥

-- the plan is not lifted, and the ending says why
pub record IsUnlifted (T U : Task) (plan : Plan) (how : Ending) : Type 0 where
  pub why : LiftFail
  pub shows : IsLiftFail T U plan why
  pub says : TellsFail why how

-- nothing is refused of the texts, and their plan is not lifted
pub record HasUnlifted (texts : AllTexts) (how : Ending) : Type 0 where
  pub task : Task
  pub written : Task
  pub plan : Plan
  pub of : AreOfLift texts task written plan
  pub unlifted : IsUnlifted task written plan how

-- the ending says why nothing is made: the first refusal of the texts, or why their plan is not lifted
abbrev pub RejectsLift : AllTexts → Ending → Type 0
RejectsLift texts how = IsRefusal (given_lift texts) texts how ⊎ HasUnlifted texts how
