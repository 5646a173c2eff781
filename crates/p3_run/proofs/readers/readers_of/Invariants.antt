use Rattle.p3_run.specs.Readers.{AreFiledTo}
use Rattle.p3_run.proofs.readers.readers_of.Given as goal

abbrev pub invariant-loop-group : goal.invariant-loop-group
invariant-loop-group l = AreFiledTo l.task l.group 0 l.readers.items
