use Rattle.std.specs.Prelude.{filter_map}
use Rattle.p3_task.specs.Types.{pair_of}
use Rattle.p3_hierarchy.specs.Walks.{IsWalked}
use Rattle.p3_hierarchy.specs.Nexts.{AreNext}
use Rattle.p3_hierarchy.proofs.walk.walk_from.Given as goal

abbrev pub invariant-visits : goal.invariant-visits
invariant-visits l = record {
  walked : IsWalked (filter_map pair_of l.filed.kinds.now) l.walk.names l.walk.from.items;
  next : AreNext (filter_map pair_of l.filed.kinds.now) l.walk.names l.next.items;
}
