use Rattle.std.proofs.Common.{◌-◌, ◌^◌}
use Rattle.p3_task.specs.Types.{declared_pairs, names_of}
use Rattle.p3_hierarchy.specs.Spans.{AreSpans, IsSearched}
use Rattle.p3_hierarchy.proofs.kinds.Kinds.down_from.Given as goal

abbrev pub invariant-loop-at : goal.invariant-loop-at
invariant-loop-at l = AreSpans (declared_pairs l.self.task.now) l.self.order.value.names l.self.order.value.spans.items
    → IsSearched (declared_pairs l.self.task.now) l.self.order.value.names (names_of l.types) l.at l.found l.spans.items

-- no list has as many places
abbrev pub decreases-loop-at : goal.decreases-loop-at
decreases-loop-at l = 2 ^ 64 - l.at
