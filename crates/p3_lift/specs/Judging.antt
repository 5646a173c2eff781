-- What judging the two plans comes to.
use Rattle.std.specs.Prelude.{◌≡◌, ◌≢◌, ℕ, ◌<◌, ◌^◌, ℤ, pos, ◌+ℤ◌, List, Result, Ok, Err}
use Rattle.std.specs.Int.RustNames.{unsigned_abs}
use Rattle.p3_base.specs.declared.refusal.Direction.{Direction}
use Rattle.p3_task.specs.Lifting.{lift}
use Rattle.p3_task.specs.Metrics.{signed, value}
use Rattle.p3_task.specs.Plans.{Plan}
use Rattle.p3_task.specs.Validity.{Valid}
use Rattle.p3_task.specs.declared.task.Task.{Task}
use Rattle.p3_ground.specs.PlansByNumber.{AreNumbers}
use Rattle.p3_lift.specs.Lifting.{IsFaultOf, IsLiftFail, IsPlanOf, loss_above}
use Rattle.p3_lift.specs.declared.answers.Differ.TheVariants.{Fault, Numbers}
use Rattle.p3_lift.specs.declared.answers.LiftFail.{LiftFail}
use Rattle.p3_lift.specs.declared.answers.LiftFail.TheVariants.{NotPlain, Invalid, Mismatch, NoMemory}
use Rattle.p3_lift.specs.declared.judging.Outcome.{Outcome}
use Rattle.p3_lift.specs.declared.judging.Outcome.TheVariants as outcome
use Rattle.p3_lift.specs.declared.judging.Worth.{Worth}

-- ---- one plan

-- the metric is the base with so much more, as a loss
pub record IsAboveBase (way : Direction) (base metric : ℤ) : Type 0 where
  pub more : ℕ
  pub few : more < 2 ^ 126
  pub small : unsigned_abs base < 2 ^ 126
  pub is : signed way metric ≡ base +ℤ pos more

-- what the plan comes to
pub record IsWorth (T : Task) (plan : Plan) (worth : Worth) : Type 0 where
  pub valid : Valid T plan
  pub metric : worth.metric ≡ value T plan
  pub loss : worth.loss ≡ loss_above T plan

-- the first fault of the plan, or what it comes to
abbrev pub IsOutcome : Task → Plan → Outcome → Type 0
IsOutcome T plan (outcome.Fault told) = IsFaultOf T plan told
IsOutcome T plan (outcome.Valid worth) = IsWorth T plan worth

-- ---- the plan of the written task

-- it is a plan of the plain task, its steps have those numbers, and it costs so much
pub record IsPlanAt (U : Task) (numbers : List ℕ) (spent : ℤ) (plan : Plan) : Type 0 where
  pub of : IsPlanOf U plan
  pub are : AreNumbers U plan numbers
  pub cost : spent ≡ value U plan

-- it is why the plan is not lifted, to whatever task
abbrev pub IsNoPlanOf : Task → LiftFail → Plan → Type 0
IsNoPlanOf U fail plan = (T : Task) → IsLiftFail T U plan fail

-- the steps of the lifted plan have those numbers, where the steps of the plan have the others
abbrev pub AreCopied : Task → Task → List ℕ → List ℕ → Type 0
AreCopied T U numbers copied = (plan : Plan) → AreNumbers U plan numbers → AreNumbers T (lift T plan) copied

-- ---- the lifted plan of a plan that costs so much

-- it is valid, with this value, and its loss above the base is the cost
pub record IsWorthAt (T : Task) (spent told : ℤ) (plan : Plan) : Type 0 where
  pub valid : Valid T plan
  pub metric : told ≡ value T plan
  pub loss : spent ≡ loss_above T plan

-- it is not valid, or its loss above the base is another number; or memory is wanting
pub record AreApartAt (T : Task) (plan : Plan) (spent told lost : ℤ) : Type 0 where
  pub valid : Valid T plan
  pub cost : told ≡ spent
  pub loss : lost ≡ loss_above T plan
  pub apart : told ≢ lost

abbrev pub DiffersAt : Task → ℤ → LiftFail → Plan → Type 0
DiffersAt T spent (Mismatch (Fault told)) plan = IsFaultOf T plan told
DiffersAt T spent (Mismatch (Numbers cost loss)) plan = AreApartAt T plan spent cost loss
DiffersAt T spent NoMemory plan = Unit {0}
DiffersAt T spent NotPlain plan = ⊥
DiffersAt T spent (Invalid told) plan = ⊥

-- the value is told where the cost is the loss above the base
abbrev pub IsComparison : ℤ → Worth → Result ℤ LiftFail → Type 0
IsComparison cost worth (Ok metric) = (worth.loss ≡ cost) × (metric ≡ worth.metric)
IsComparison cost worth (Err fail) = (cost ≢ worth.loss) × (fail ≡ Mismatch (Numbers cost worth.loss))
