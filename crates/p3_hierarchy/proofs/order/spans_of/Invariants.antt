use Rattle.std.proofs.Common.{◌≡◌, ◌<◌, ◌≤◌, ℕ, List, length, get_or}
use Rattle.p3_task.specs.Names.{Name}
use Rattle.p3_hierarchy.specs.Reaches.{AreReached, AreTops}
use Rattle.p3_hierarchy.specs.Spans.{AreSpans}
use Rattle.p3_hierarchy.proofs.order.spans_of.Given as goal

abbrev pub invariant-loop-place : goal.invariant-loop-place
invariant-loop-place l = record {
  tops_long : length l.tops.items ≡ l.place;
  spans_long : length l.spans.items ≡ l.place;
  before : (k : ℕ) → k < length l.tops.items → get_or l.tops.items k 0 ≤ k;
  tops : (pairs : List (Name × Name)) (names : List Name) → AreReached pairs names 0 l.reaches → AreTops pairs names l.tops.items;
  spans : (pairs : List (Name × Name)) (names : List Name) → AreReached pairs names 0 l.reaches → AreSpans pairs names l.spans.items;
}
