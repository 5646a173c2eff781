-- What lifting a plan of a written task answers.
use Rattle.std.specs.Prelude.{◌≡◌, ◌≢◌, ℕ, false, List, filter_map, slice_get, ℤ, ◌-ℤ◌, Some}
use Rattle.p3_task.specs.Lifting.{Plain, is_plain, lift, steps}
use Rattle.p3_task.specs.Metrics.{base_loss, loss, value}
use Rattle.p3_task.specs.Plans.{Plan}
use Rattle.p3_task.specs.Validity.{Valid, first_fault}
use Rattle.p3_task.specs.declared.task.Task.{Task}
use Rattle.p3_eval.specs.Judged.{HasItsStep, fault_in}
use Rattle.p3_eval.specs.declared.fault.PlanFault.{PlanFault}
use Rattle.p3_lift.specs.declared.answers.Differ.{Differ}
use Rattle.p3_lift.specs.declared.answers.Differ.TheVariants.{Fault, Numbers}
use Rattle.p3_lift.specs.declared.answers.LiftFail.{LiftFail}
use Rattle.p3_lift.specs.declared.answers.LiftFail.TheVariants.{NotPlain, Invalid, Mismatch, NoMemory}
use Rattle.p3_lift.specs.declared.answers.Lifted.{Lifted}
use Rattle.p3_lift.specs.declared.answers.LiftedSteps.{LiftedSteps}

-- ---- a task read and a plain task that was written

-- the loss of a plan above that of no violation and no step, in units of 1 divided by the scale
abbrev pub loss_above : Task → Plan → ℤ
loss_above T plan = loss T plan -ℤ base_loss T

-- the plan is one of the plain task
pub record IsPlanOf (U : Task) (plan : Plan) : Type 0 where
  pub plain : Plain U
  pub valid : Valid U plan

-- ---- the plan is lifted

-- it is a plan of the plain task, its lifted plan is one of the task read, and what it costs is the loss of the lifted plan above the base
pub record IsLifted (T U : Task) (written : Plan) (lifted : Lifted) : Type 0 where
  pub of : IsPlanOf U written
  pub plan : lifted.plan ≡ lift T written
  pub valid : Valid T lifted.plan
  pub cost : lifted.cost ≡ value U written
  pub metric : lifted.metric ≡ value T lifted.plan
  pub loss : lifted.cost ≡ loss_above T lifted.plan

-- ---- by numbers

-- the steps of those numbers
abbrev pub numbered_steps : Task → List ℕ → Plan
numbered_steps T numbers = filter_map (slice_get (steps T)) numbers

-- the lifted plan whose steps have those numbers
abbrev pub lifted_of : Task → LiftedSteps → Lifted
lifted_of T lifted = record { plan = numbered_steps T lifted.numbers.items; cost = lifted.cost; metric = lifted.metric }

-- ---- or it is not

-- it is the first fault of the plan, with the step that it has
abbrev pub IsFaultOf : Task → Plan → PlanFault → Type 0
IsFaultOf T plan told = (first_fault T plan ≡ Some (fault_in told)) × HasItsStep told

-- the lifted plan is valid, and its loss above the base is not what the plan costs
pub record AreApart (T U : Task) (written : Plan) (spent lost : ℤ) : Type 0 where
  pub valid : Valid T (lift T written)
  pub cost : spent ≡ value U written
  pub loss : lost ≡ loss_above T (lift T written)
  pub apart : spent ≢ lost

-- how the lifted plan differs
abbrev pub IsDiffer : Task → Task → Plan → Differ → Type 0
IsDiffer T U written (Fault told) = IsFaultOf T (lift T written) told
IsDiffer T U written (Numbers cost loss) = AreApart T U written cost loss

-- why it is not lifted: each of these excludes the others but want of memory, and that it is
abbrev pub IsLiftFail : Task → Task → Plan → LiftFail → Type 0
IsLiftFail T U written NotPlain = is_plain U ≡ false
IsLiftFail T U written (Invalid told) = Plain U × IsFaultOf U written told
IsLiftFail T U written (Mismatch differ) = IsPlanOf U written × IsDiffer T U written differ
IsLiftFail T U written NoMemory = Unit {0}
