use Rattle.std.proofs.Common.{◌≡◌, ◌<◌, List, [], map, length, take}
use Rattle.std.specs.Prelude.{All, Contains}
use Rattle.p3_task.specs.Names.{Name}
use Rattle.p3_hierarchy.specs.Walks.{IsOwn, kind_at}
use Rattle.p3_hierarchy.proofs.reaches.with_lows.Given as goal

abbrev pub invariant-loop-low : goal.invariant-loop-low
invariant-loop-low l = record {
  end : l.reach.end ≡ l.fn.reach.end;
  own : (pairs : List (Name × Name)) → l.place < length l.names → All (λ low. Contains pairs (low.now, kind_at l.names l.place)) l.lows
      → IsOwn pairs l.names l.place [] l.fn.reach.least l.fn.reach.most
      → IsOwn pairs l.names l.place (map (λ low. low.now) (take l.low-index l.lows)) l.reach.least l.reach.most;
}
