use Rattle.p3_run.specs.Readers.{AreFiledTo}
use Rattle.p3_run.proofs.readers.push_group.Given as goal

abbrev pub invariant-loop-place : goal.invariant-loop-place
invariant-loop-place l = AreFiledTo l.task l.group l.place l.readers.items
