use Rattle.std.proofs.Common.{◌∙◌, ◌+◌, sym, subst, map, arith, rules}
use Rattle.std.proofs.lemmas.List.{length-map}
use Rattle.p3_types.specs.NameOrders.{ArePlaced}
use Rattle.p3_types.proofs.NameOrderLemmas.{placed_more, named_at}
use Rattle.p3_types.proofs.name_order.named_places.Goals as goal

pub loop-place-preserved : goal.loop-place-preserved
loop-place-preserved g c =
    let names = map g.T.Named.name_of c.args.items.now in
    subst (ArePlaced names (c.loop-place.place + 1)) (sym c.in_ok-push.ensures.items)
    (placed_more names c.loop-place.place c.loop-place.pairs.items (c.bytes.result, c.in_ok-number.number) c.loop-place.invariant
    (c.bytes.ensures.bytes ∙ c.name.ensures ∙ sym (named_at g.T.Named.name_of c.args.items.now c.loop-place.place c.index-items-place.result c.loop-place-test.true c.index-items-place.is))
    (search rules) (omega (arith, c.loop-place-test.true, length-map c.args.items.now g.T.Named.name_of)))
