use Rattle.std.proofs.Common.{◌≡◌, take}
use Rattle.p3_resolve.specs.Listed.{lists_in}
use Rattle.p3_resolve.specs.Numbers.{names_in}
use Rattle.p3_resolve.specs.Ranges.{lists_once}
use Rattle.p3_resolve.proofs.ranges.each_list.Given as goal

abbrev pub invariant-loop-types : goal.invariant-loop-types
invariant-loop-types l = record {
  same : l.table ≡ names_in l.lists.items;
  table : l.table ≡ lists_once (lists_in (take l.types-index l.found));
}
