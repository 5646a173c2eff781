-- What a plan that is not lifted tells, in the terms of the definitions.
use Rattle.std.specs.Prelude.{ℤ}
use Rattle.p3_task.specs.Validity.{Fault}
use Rattle.p3_eval.specs.Judged.{fault_in}
use Rattle.p3_lift.specs.declared.answers.Differ.TheVariants as differ
use Rattle.p3_lift.specs.declared.answers.LiftFail.{LiftFail}
use Rattle.p3_lift.specs.declared.answers.LiftFail.TheVariants.{NotPlain, Invalid, Mismatch, NoMemory}

pub data Told : Type 0 where
  -- of the tasks and the plan it tells nothing
  Nothing : Told
  OtherTask : Told
  PlanFault : (fault : Fault) → Told
  LiftedFault : (fault : Fault) → Told
  OtherLoss : (cost loss : ℤ) → Told

abbrev pub told_by : LiftFail → Told
told_by NotPlain = OtherTask
told_by (Invalid told) = PlanFault (fault_in told)
told_by (Mismatch (differ.Fault told)) = LiftedFault (fault_in told)
told_by (Mismatch (differ.Numbers cost loss)) = OtherLoss cost loss
told_by NoMemory = Nothing
