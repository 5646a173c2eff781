use Rattle.std.proofs.Common.{map}
use Rattle.p3_types.specs.NameOrders.{ArePlaced}
use Rattle.p3_types.proofs.name_order.named_places.Given as goal

abbrev pub invariant-loop-place : goal.invariant-loop-place
invariant-loop-place g l = ArePlaced (map (g.T.Named.name_of) l.items) l.place l.pairs.items
