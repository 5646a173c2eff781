use Rattle.std.proofs.Common.{◌∙◌, ◌+◌, ◌-◌, ◌/◌, sym, refl, map, arith}
use Rattle.std.specs.Str.{str_to_ascii_lowercase}
use Rattle.p3_types.proofs.NameOrderLemmas.{between_up, between_down, between_none, found_at, inside_order}
use Rattle.p3_types.proofs.name_order.find_name.Goals as goal

pub loop-low-preserved-in-Less : goal.loop-low-preserved-in-Less
loop-low-preserved-in-Less g c =
    let low = c.loop-low.low in
    let high = c.loop-low.high in
    between_up (map g.T.Named.name_of c.args.items.now) c.args.order.now (str_to_ascii_lowercase c.args.word.now) low high (low + (high - low) / 2) _
    c.requires c.loop-low.invariant (omega arith) refl (sym c.compared.ensures ∙ c.in-Less.is)

pub returns-in-Equal : goal.returns-in-Equal
returns-in-Equal g c =
    let names = map g.T.Named.name_of c.args.items.now in
    let word = str_to_ascii_lowercase c.args.word.now in
    let low = c.loop-low.low in
    let high = c.loop-low.high in
    let bound = c.loop-low.invariant.bound in
    found_at names word _ (sym c.compared.ensures ∙ c.in-Equal.is) (inside_order names c.args.order.now word _ (low + (high - low) / 2) c.requires (omega arith) refl)

pub loop-low-preserved : goal.loop-low-preserved
loop-low-preserved g c =
    let low = c.loop-low.low in
    let high = c.loop-low.high in
    between_down (map g.T.Named.name_of c.args.items.now) c.args.order.now (str_to_ascii_lowercase c.args.word.now) low high (low + (high - low) / 2) _
    c.requires c.loop-low.invariant (omega arith) refl (sym c.compared.ensures ∙ c.in-Greater.is)

pub returns : goal.returns
returns g c =
    between_none (map g.T.Named.name_of c.args.items.now) c.args.order.now (str_to_ascii_lowercase c.args.word.now) c.loop-low.low c.loop-low.high
    c.requires c.loop-low.invariant c.loop-low-test.false
