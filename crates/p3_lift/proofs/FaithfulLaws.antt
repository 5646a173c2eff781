-- A plan of a faithful translation has no mismatch.
use Rattle.std.proofs.Common.{◌≡◌, ◌∙◌, sym, None, Some}
use Rattle.p3_task.specs.Faithful.{Faithful, IsSound}
use Rattle.p3_task.specs.Lifting.{lift}
use Rattle.p3_task.specs.Plans.{Plan}
use Rattle.p3_task.specs.Validity.{Valid}
use Rattle.p3_task.specs.declared.task.Task.{Task}
use Rattle.p3_task.proofs.ValidityLemmas.{valid_where_no_fault}
use Rattle.p3_eval.specs.Judged.{fault_in}
use Rattle.p3_eval.specs.declared.fault.PlanFault.{PlanFault}
use Rattle.p3_lift.specs.Lifting.{IsDiffer, IsFaultOf, IsLiftFail}
use Rattle.p3_lift.specs.declared.answers.Differ.{Differ}
use Rattle.p3_lift.specs.declared.answers.Differ.TheVariants.{Fault, Numbers}
use Rattle.p3_lift.specs.declared.answers.LiftFail.TheVariants.{Mismatch}

-- a valid plan has no first fault
pub no_fault : (T : Task) (plan : Plan) (told : PlanFault) → Valid T plan → IsFaultOf T plan told → ⊥
no_fault T plan told valid is = let no : None ≡ Some (fault_in told) = sym ((valid_where_no_fault T plan).0 valid) ∙ is.0 in cc

module _ (T U : Task) (faithful : Faithful T U) (plan : Plan) where
  sound_differ : (differ : Differ) → IsSound T U plan → IsDiffer T U plan differ → ⊥
  sound_differ (Fault told) sound is = no_fault T (lift T plan) told sound.valid is
  sound_differ (Numbers cost loss) sound is = is.apart (is.cost ∙ sound.cost ∙ sym is.loss)

  pub no_mismatch : (differ : Differ) → IsLiftFail T U plan (Mismatch differ) → ⊥
  no_mismatch differ is = sound_differ differ (faithful.sound plan is.0.valid) is.1
