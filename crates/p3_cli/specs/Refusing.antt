-- What is refused of the texts that a command has read, and the endings that say why nothing is made of them.
use Rattle.std.specs.Prelude.{◌≡◌, List, ℕ, Some}
use Rattle.p3_base.specs.declared.refusal.Refusal.{Refusal}
use Rattle.p3_base.specs.declared.refusal.Side.{Side}
use Rattle.p3_base.specs.declared.refusal.Side.TheVariants.{Source}
use Rattle.p3_task.specs.Grammar.Texts.{Reads}
use Rattle.p3_task.specs.PlanTexts.{plan_offence}
use Rattle.p3_task.specs.Refusals.First.{AreAccepted, AreReadable, Given, IsFirstOfTexts, IsFirstRefusal, TaskTexts, given_task, halves}
use Rattle.p3_task.specs.Refusals.First as first
use Rattle.p3_task.specs.declared.task.Task.{Task}
use Rattle.p3_reports.specs.Rejections.{placed_in}
use Rattle.p3_reports.specs.declared.refusal.Rejection.TheVariants.{At}
use Rattle.p3_outline.specs.declared.error.ReadFail.{ReadFail}
use Rattle.p3_outline.specs.declared.error.ReadFail.TheVariants as fail
use Rattle.p3_cli.specs.Ending.{Ending, Invalid, Refused}
use Rattle.p3_cli.specs.Texts.{AllTexts, domain_of, problem_of, task_texts, text_of}
use Rattle.p3_cli.specs.declared.ending.Ending as code
use Rattle.p3_cli.specs.declared.ending.Ending.TheVariants as coded

-- ---- what is read

-- nothing is refused of the texts by themselves, and they are those of the task
pub record IsSpelled (texts : TaskTexts) (task : Task) : Type 0 where
  pub readable : AreReadable (halves texts)
  pub reads : Reads texts.domain texts.problem task

-- they are short enough, and nothing is refused of them
abbrev pub AreAcceptedFor : Side → AllTexts → Task → Type 0
AreAcceptedFor side texts task = AreAccepted side (domain_of side texts) (problem_of side texts) task

-- ---- what is refused

-- the first refusal that the halves of a side show by themselves
abbrev pub IsOfHalves : Side → AllTexts → Refusal → Type 0
IsOfHalves side texts refusal = IsFirstOfTexts (halves (task_texts side texts)) refusal

-- the refusal of the task that they spell
abbrev pub IsOfTask : Side → AllTexts → Refusal → Type 0
IsOfTask side texts refusal = first.IsRefusedTask (task_texts side texts) refusal

-- the first offence of the plan's text
abbrev pub IsOfPlan : AllTexts → Refusal → Type 0
IsOfPlan texts refusal = plan_offence texts.plan ≡ Some refusal

-- ---- what is said of it

-- the ending that says a refusal of a text
abbrev pub refused_in : List ℕ → Refusal → Ending
refused_in text refusal = Refused (At (placed_in text refusal))

-- the ending says a refusal that is shown
pub record Says (texts : AllTexts) (Shows : Refusal → Type 0) (how : Ending) : Type 0 where
  pub refusal : Refusal
  pub shows : Shows refusal
  pub says : how ≡ refused_in (text_of refusal.pos.role texts) refusal

-- an ending where nothing is made: what is read is refused or not valid, and so it is said; or memory is wanting
abbrev pub IsRejectedBy : (Ending → Type 0) → code.Ending → Type 0
IsRejectedBy Tells coded.OutOfMemory = Unit {0}
IsRejectedBy Tells (coded.Refused rejection) = Tells (Refused rejection)
IsRejectedBy Tells (coded.Invalid fault) = Tells (Invalid fault)
IsRejectedBy Tells (coded.Done report) = ⊥
IsRejectedBy Tells (coded.TooLong role) = ⊥
IsRejectedBy Tells (coded.ReadFailed role) = ⊥
IsRejectedBy Tells (coded.WriteFailed role) = ⊥
IsRejectedBy Tells coded.Usage = ⊥

-- the ending says a refusal that is shown, or memory is wanting
abbrev pub IsRefusedFor : AllTexts → (Refusal → Type 0) → code.Ending → Type 0
IsRefusedFor texts Shows how = IsRejectedBy (Says texts Shows) how

-- how it ends where a half is not read
abbrev pub EndsAs : AllTexts → ReadFail → code.Ending → Type 0
EndsAs texts (fail.Refused refusal) how = IsRejectedBy (λ end. end ≡ refused_in (text_of refusal.pos.role texts) refusal) how
EndsAs texts fail.NoMemory how = how ≡ coded.OutOfMemory

-- the ending says the first refusal of what is given
abbrev pub IsRefusal : Given → AllTexts → Ending → Type 0
IsRefusal given texts how = Says texts (IsFirstRefusal given) how

-- of a task that is read alone: the ending says its first refusal
abbrev pub RejectsTask : AllTexts → Ending → Type 0
RejectsTask texts how = IsRefusal (given_task Source texts.domain texts.problem) texts how

-- or memory is wanting
abbrev pub IsRefusedTask : AllTexts → code.Ending → Type 0
IsRefusedTask texts how = IsRejectedBy (RejectsTask texts) how
