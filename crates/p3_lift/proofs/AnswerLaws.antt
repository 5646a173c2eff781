-- Answers that are right of the same tasks and plan tell the same.
use Rattle.std.proofs.Common.{◌≡◌, ◌≢◌, ◌∙◌, refl, sym, ap, Bool, true, false, Option, None, Some}
use Rattle.p3_task.specs.Lifting.{is_plain, lift}
use Rattle.p3_task.specs.Metrics.{value}
use Rattle.p3_task.specs.Plans.{Plan}
use Rattle.p3_task.specs.Validity.{Fault, first_fault}
use Rattle.p3_task.specs.declared.task.Task.{Task}
use Rattle.p3_task.proofs.ValidityLemmas.{valid_where_no_fault}
use Rattle.p3_lift.specs.Lifting.{IsLiftFail, IsLifted, loss_above}
use Rattle.p3_lift.specs.Told as told
use Rattle.p3_lift.specs.Told.{Told, told_by}
use Rattle.p3_lift.specs.declared.answers.Differ.TheVariants.{Fault as Fails, Numbers}
use Rattle.p3_lift.specs.declared.answers.LiftFail.{LiftFail}
use Rattle.p3_lift.specs.declared.answers.LiftFail.TheVariants.{NotPlain, Invalid, Mismatch, NoMemory}
use Rattle.p3_lift.specs.declared.answers.Lifted.{Lifted}
use Rattle.p3_lift.proofs.FaithfulLaws.{no_fault}

module _ (T U : Task) (plan : Plan) where
  -- ---- two lifted plans

  pub one_lifted : (first second : Lifted) → IsLifted T U plan first → IsLifted T U plan second → first ≡ second
  one_lifted first second one other =
      let plans = one.plan ∙ sym other.plan in
      let costs = one.cost ∙ sym other.cost in
      let metrics = one.metric ∙ ap (value T) plans ∙ sym other.metric in
      λ i. record { plan = plans i; cost = costs i; metric = metrics i }

  -- ---- a lifted plan, and a failure

  clash : {A : Type 0} → is_plain U ≡ true → is_plain U ≡ false → A
  clash is isnt = absurd (let bad : true ≡ false = sym is ∙ isnt in cc)

  pub not_both : (lifted : Lifted) (fail : LiftFail) → IsLifted T U plan lifted → IsLiftFail T U plan fail → fail ≡ NoMemory
  not_both lifted NotPlain one is = clash one.of.plain is
  not_both lifted (Invalid told) one is = absurd (no_fault U plan told one.of.valid is.1)
  not_both lifted (Mismatch (Fails told)) one is = absurd (no_fault T lifted.plan told one.valid (ap (first_fault T) one.plan ∙ is.1.0, is.1.1))
  not_both lifted (Mismatch (Numbers cost loss)) one is = absurd (is.1.apart (is.1.cost ∙ sym one.cost ∙ one.loss ∙ ap (loss_above T) one.plan ∙ sym is.1.loss))
  not_both lifted NoMemory one is = refl

  -- ---- two failures

  abbrev told_of : Bool → Option Fault → Option Fault → Told
  told_of false first second = told.OtherTask
  told_of true (Some fault) second = told.PlanFault fault
  told_of true None (Some fault) = told.LiftedFault fault
  told_of true None None = told.OtherLoss (value U plan) (loss_above T (lift T plan))

  -- what is told is what the tasks and the plan say
  is_told : (fail : LiftFail) → IsLiftFail T U plan fail → fail ≢ NoMemory → told_by fail ≡ told_of (is_plain U) (first_fault U plan) (first_fault T (lift T plan))
  is_told NotPlain is some = ap (λ b. told_of b (first_fault U plan) (first_fault T (lift T plan))) (sym is)
  is_told (Invalid fault) is some = λ i. told_of (sym is.0 i) (sym is.1.0 i) (first_fault T (lift T plan))
  is_told (Mismatch (Fails fault)) is some = λ i. told_of (sym is.0.plain i) (sym ((valid_where_no_fault U plan).0 is.0.valid) i) (sym is.1.0 i)
  is_told (Mismatch (Numbers cost loss)) is some =
      (λ i. told.OtherLoss (is.1.cost i) (is.1.loss i))
      ∙ (λ i. told_of (sym is.0.plain i) (sym ((valid_where_no_fault U plan).0 is.0.valid) i) (sym ((valid_where_no_fault T (lift T plan)).0 is.1.valid) i))
  is_told NoMemory is some = absurd (some refl)

  pub same_told : (first second : LiftFail) → IsLiftFail T U plan first → IsLiftFail T U plan second → first ≢ NoMemory → second ≢ NoMemory → told_by first ≡ told_by second
  same_told first second one other some more = is_told first one some ∙ sym (is_told second other more)
