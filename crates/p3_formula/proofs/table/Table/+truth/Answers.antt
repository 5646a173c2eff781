use Rattle.std.proofs.Common.{rules, arith, length}
use Rattle.p3_formula.specs.Nodes.{form_of}
use Rattle.p3_formula.proofs.NodeLemmas.{item-below}
use Rattle.p3_formula.proofs.table.Table.+truth.Goals as goal

pub all_hold-truth-requires : goal.all_hold-truth-requires
all_hold-truth-requires t c =
    let part = c.requires.parts c.loop-number.number-index 0 c.loop-number-test.true in
    let below = item-below (length c.args.state.now) (form_of c.args.self.now) c.args.numbers.now c.loop-number.number-index 0 c.requires.below c.loop-number-test.true in
    (search rules, (omega (arith, part, c.requires.within), below))

pub some_holds-truth-requires : goal.some_holds-truth-requires
some_holds-truth-requires t c =
    let part = c.requires.parts c.loop-number.number-index 0 c.loop-number-test.true in
    let below = item-below (length c.args.state.now) (form_of c.args.self.now) c.args.numbers.now c.loop-number.number-index 0 c.requires.below c.loop-number-test.true in
    (search rules, (omega (arith, part, c.requires.within), below))
