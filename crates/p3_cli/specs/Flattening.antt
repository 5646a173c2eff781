-- What `compile-flat` makes of a task, and why it may make nothing of it.
use Rattle.std.specs.Prelude.{ℕ, ◌≡◌, ◌⊎◌, ◌<◌, List, Some, slice_get}
use Rattle.p3_base.specs.Copies.{IsNamedFor}
use Rattle.p3_base.specs.Words.{Name}
use Rattle.p3_base.specs.declared.refusal.Refusal.{Refusal}
use Rattle.p3_base.specs.declared.refusal.Side.TheVariants.{Source}
use Rattle.p3_task.specs.Faithful.{Faithful}
use Rattle.p3_task.specs.Grammar.Texts.{Reads}
use Rattle.p3_task.specs.Refusals.First.{AreAccepted}
use Rattle.p3_task.specs.Refusals.Flat.{IsFlatRefusal, IsWideStepAt, most_conditions}
use Rattle.p3_tree.specs.Reports.Tasks.{compiled_lines}
use Rattle.p3_task.specs.StepNumbers.{HasNumber}
use Rattle.p3_task.specs.Touching.{conds}
use Rattle.p3_task.specs.Unconditional.{IsUnconditional}
use Rattle.p3_task.specs.declared.task.Step.{Step}
use Rattle.p3_task.specs.declared.task.Task.{Task}
use Rattle.p3_flat.specs.Flattened.{first_too_wide}
use Rattle.p3_formula.specs.declared.target.Target.{Target}
use Rattle.p3_formula.specs.declared.target.TargetAction.{TargetAction}
use Rattle.p3_cli.specs.Ending.{Ending}
use Rattle.p3_cli.specs.Refusing.{IsRejectedBy, RejectsTask, Says}
use Rattle.p3_cli.specs.Texts.{AllTexts}
use Rattle.p3_cli.specs.Translation.{IsTargetOf}
use Rattle.p3_cli.specs.declared.ending.Ending as code

-- the grammar reads the texts as a faithful translation of the task, and no effect of it has a condition
pub record HasFlatText (od op : List ℕ) (T : Task) : Type 0 where
  pub written : Task
  pub reads : Reads od op written
  pub faithful : Faithful T written
  pub unconditional : IsUnconditional written

-- nothing is refused of d and p, the texts od and op are a faithful translation of their task without conditional effects, and the report is the task's
pub record IsFlatTranslation (d p od op report : List ℕ) : Type 0 where
  pub task : Task
  pub accepted : AreAccepted Source d p task
  pub text : HasFlatText od op task
  pub told : report ≡ compiled_lines task

-- ---- the cause of too many conditions

-- the step to which an action of that name belongs
pub record IsStepOfName (T : Task) (name : Name) (step : Step) : Type 0 where
  pub number : ℕ
  pub named : IsNamedFor number name
  pub has : HasNumber T step number

-- the step of the first action that has too many conditions, of a target of the task
pub record IsFirstTooWide (T : Task) (step : Step) : Type 0 where
  pub target : Target
  pub of : IsTargetOf T target
  pub place : ℕ
  pub first : first_too_wide target ≡ Some place
  pub action : TargetAction
  pub stands : slice_get target.actions place ≡ Some action
  pub is : IsStepOfName T action.name step

-- nothing is refused of d and p, but a step of their task may have too many conditions, and it has that first action
pub record IsTooWide (d p : List ℕ) (refusal : Refusal) : Type 0 where
  pub is : IsFlatRefusal d p refusal
  pub first : IsFirstTooWide is.task is.at.step

-- the ending says why nothing is made of a task that is read alone: its first refusal, or a step that may have too many conditions
abbrev pub StopsFlat : AllTexts → Ending → Type 0
StopsFlat texts how = RejectsTask texts how ⊎ Says texts (IsTooWide texts.domain texts.problem) how

abbrev pub IsStoppedFlat : AllTexts → code.Ending → Type 0
IsStoppedFlat texts how = IsRejectedBy (StopsFlat texts) how

-- an action of that name is one of a step of the task, and the step may have more conditions than an action may have
pub record IsOfWideStep (T : Task) (name : Name) : Type 0 where
  pub number : ℕ
  pub named : IsNamedFor number name
  pub step : Step
  pub has : HasNumber T step number
  pub wide : most_conditions < conds T step

-- the refusal is of that step
pub record IsRefusedByName (T : Task) (name : Name) (refusal : Refusal) : Type 0 where
  pub at : IsWideStepAt T refusal
  pub is : IsStepOfName T name at.step

-- the refusal is of the step of the first action that has too many conditions
pub record IsRefusedFirst (T : Task) (refusal : Refusal) : Type 0 where
  pub at : IsWideStepAt T refusal
  pub first : IsFirstTooWide T at.step
