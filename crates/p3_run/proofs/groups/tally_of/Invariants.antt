use Rattle.std.proofs.Common.{take}
use Rattle.p3_run.specs.Groups.{IsCounted}
use Rattle.p3_run.proofs.groups.tally_of.Given as goal

abbrev pub invariant-loop-group : goal.invariant-loop-group
invariant-loop-group l = IsCounted l.by_name (take l.group-index l.groups) l.tally
