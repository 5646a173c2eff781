use Rattle.std.proofs.Common.{◌≡◌, length}
use Rattle.p3_plans.specs.Steps.{left}
use Rattle.p3_eval.specs.Judging.{Follows, IsRunOf}
use Rattle.p3_eval.proofs.text_judging.first_fault.Given as goal

abbrev pub invariant-loop-slice : goal.invariant-loop-slice
invariant-loop-slice l = record {
  source : l.reader.source ≡ l.text;
  of : IsRunOf l.checked.task l.run;
  follows : Follows l.checked.task l.text l.run.plan (left l.reader);
}

abbrev pub decreases-loop-slice : goal.decreases-loop-slice
decreases-loop-slice l = length (left l.reader).steps
