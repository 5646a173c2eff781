use Rattle.std.proofs.Common.{◌≡◌, take}
use Rattle.p3_resolve.specs.Numbers.{names_in}
use Rattle.p3_resolve.proofs.ranges.copied_lists.Given as goal

abbrev pub invariant-loop-types : goal.invariant-loop-types
invariant-loop-types l = l.copies ≡ names_in (take l.types-index l.lists)
