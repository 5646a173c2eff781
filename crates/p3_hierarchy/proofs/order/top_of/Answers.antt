use Rattle.std.proofs.Common.{arith}
use Rattle.p3_hierarchy.proofs.ReachLemmas.{top-before}
use Rattle.p3_hierarchy.proofs.order.top_of.Goals as goal

pub returns-then-least-place-clause-top : goal.returns-then-least-place-clause-top
returns-then-least-place-clause-top c pairs names reached tops =
    top-before pairs names c.args.place c.args.reaches.now c.args.tops.now (record { end = 0; least = 0; most = 0 })
    (omega (arith, c.requires.within, reached.long)) c.if-least-place.true c.requires.long reached tops
