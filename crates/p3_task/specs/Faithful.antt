-- What it is that a plain task is a faithful translation of a task (the end phase of Keyder and Geffner; the numbers and names of steps, and the chains of wide steps, are this project's profile).
use Rattle.std.specs.Prelude.{◌≡◌, ℕ, ◌+◌, ◌-ℤ◌, length, sum_by, Option, Some, None}
use Rattle.p3_base.specs.Copies.{extra_of}
use Rattle.p3_task.specs.Costs.{cost_places}
use Rattle.p3_task.specs.Plans.{Plan, action_named}
use Rattle.p3_task.specs.Constraints.{instances}
use Rattle.p3_task.specs.Validity.{Valid}
use Rattle.p3_task.specs.Metrics.{value, loss, base_loss}
use Rattle.p3_task.specs.Offences.{WellFormed}
use Rattle.p3_task.specs.Lifting.{Plain, IsVariableFree, lift}
use Rattle.p3_task.specs.Limits.{width}
use Rattle.p3_task.specs.declared.task.Action.{Action}
use Rattle.p3_task.specs.declared.task.Step.{Step}
use Rattle.p3_task.specs.declared.task.Task.{Task}

abbrev pub extra_by : Task → Option Action → ℕ
extra_by T None = 0
extra_by T (Some action) = extra_of (width T action)

-- how many actions more than steps a plan of the written task has for the wide steps of the plan
unfoldable pub extra : Task → Plan → ℕ
extra T plan = sum_by (λ (step : Step). extra_by T (action_named T step.action)) plan

-- a valid plan of the written task is one of the task read, and its cost is the loss above the base, in units of 1 divided by the scale
pub record IsSound (T U : Task) (q : Plan) : Type 0 where
  pub valid : Valid T (lift T q)
  pub cost : value U q ≡ loss T (lift T q) -ℤ base_loss T

-- exactly one valid plan of the written task lifts to the plan
pub record HasOneSource (T U : Task) (p : Plan) : Type 0 where
  pub source : Plan
  pub valid : Valid U source
  pub lifts : lift T source ≡ p
  pub only : (q : Plan) → Valid U q → lift T q ≡ p → q ≡ source

pub record Faithful (T U : Task) : Type 0 where
  pub well_formed : WellFormed U
  pub plain : Plain U
  pub variable_free : IsVariableFree U
  -- no number has a point
  pub whole : cost_places U ≡ 0
  pub sound : (q : Plan) → Valid U q → IsSound T U q
  pub one_to_one : (p : Plan) → Valid T p → HasOneSource T U p
  pub length : (q : Plan) → Valid U q → length q ≡ length (lift T q) + 1 + length (instances T) + extra T (lift T q)
