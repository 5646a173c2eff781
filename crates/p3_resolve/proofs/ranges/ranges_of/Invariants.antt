use Rattle.std.proofs.Common.{take}
use Rattle.p3_resolve.specs.Numbers.{names_in}
use Rattle.p3_resolve.specs.Ranges.{HaveRanges}
use Rattle.p3_resolve.proofs.ranges.ranges_of.Given as goal

abbrev pub invariant-loop-types : goal.invariant-loop-types
invariant-loop-types l = HaveRanges l.kinds.task.now (names_in (take l.types-index l.lists)) l.ranges
