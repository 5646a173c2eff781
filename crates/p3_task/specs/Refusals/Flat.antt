-- The refusal of a task whose translation may need conditional effects: a step has too many conditions.
use Rattle.std.specs.Prelude.{◌≡◌, ℕ, ◌<◌, List, Some, Contains}
use Rattle.p3_base.specs.declared.refusal.Code.TheVariants.{FlatTooWide}
use Rattle.p3_base.specs.declared.refusal.Refusal.{Refusal}
use Rattle.p3_base.specs.declared.refusal.Role.TheVariants as role
use Rattle.p3_base.specs.declared.refusal.Side.TheVariants.{Source}
use Rattle.p3_task.specs.Lifting.{steps}
use Rattle.p3_task.specs.Plans.{action_named}
use Rattle.p3_task.specs.Refusals.First.{AreAccepted}
use Rattle.p3_task.specs.Refusals.Places.{refusal_at_word}
use Rattle.p3_task.specs.Touching.{conds}
use Rattle.p3_task.specs.declared.task.Action.{Action}
use Rattle.p3_task.specs.declared.task.Step.{Step}
use Rattle.p3_task.specs.declared.task.Task.{Task}

-- an action of a translation has no more conditions
abbrev pub most_conditions : ℕ
most_conditions = 12

-- the step may have more, and the refusal stands at the name of its action
pub record IsWideStepAt (T : Task) (refusal : Refusal) : Type 0 where
  pub step : Step
  pub own : Contains (steps T) step
  pub wide : most_conditions < conds T step
  pub action : Action
  pub named : action_named T step.action ≡ Some action
  pub is : refusal ≡ refusal_at_word FlatTooWide role.Domain action.name

-- nothing is refused of the texts, and a step of their task may have too many conditions
pub record IsFlatRefusal (d p : List ℕ) (refusal : Refusal) : Type 0 where
  pub task : Task
  pub accepted : AreAccepted Source d p task
  pub at : IsWideStepAt task refusal
