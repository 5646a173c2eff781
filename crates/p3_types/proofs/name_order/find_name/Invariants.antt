use Rattle.std.proofs.Common.{◌-◌, map}
use Rattle.std.specs.Str.{str_to_ascii_lowercase}
use Rattle.p3_types.specs.NameOrders.{IsBetween}
use Rattle.p3_types.proofs.name_order.find_name.Given as goal

abbrev pub invariant-loop-low : goal.invariant-loop-low
invariant-loop-low g l = IsBetween (map (g.T.Named.name_of) l.items) l.order (str_to_ascii_lowercase l.word) l.low l.high

abbrev pub decreases-loop-low : goal.decreases-loop-low
decreases-loop-low g l = l.high - l.low
