use Rattle.std.proofs.Common.{◌∙◌, ap, sym, subst, map}
use Rattle.std.proofs.lemmas.List.{length-map}
use Rattle.p3_types.specs.NameOrders.{ArePlaced}
use Rattle.p3_types.proofs.NameOrderLemmas.{place_of, order_of_pairs}
use Rattle.p3_types.proofs.name_order.name_order.Goals as goal

pub returns : goal.returns
returns g c =
    order_of_pairs (map g.T.Named.name_of c.args.items.now) c.in_ok-pairs.pairs.items c.sort_unstable.new.self.items c.in_ok-order.order.items
    (subst (λ count. ArePlaced (map g.T.Named.name_of c.args.items.now) count c.in_ok-pairs.pairs.items) (sym (length-map c.args.items.now g.T.Named.name_of)) c.in_ok-pairs.ensures) c.sort_unstable.ensures.permutation c.sort_unstable.ensures.sorted (c.in_ok-order.ensures ∙ ap (map place_of) c.as_slice.ensures.value)
