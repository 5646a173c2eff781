use Rattle.std.proofs.Common.{arith}
use Rattle.p3_hierarchy.specs.declared.reaches.Reach.{Reach}
use Rattle.p3_hierarchy.proofs.ReachLemmas.{span-found}
use Rattle.p3_hierarchy.proofs.order.span_of.Goals as goal

pub returns-then-top-reach-2 : goal.returns-then-top-reach-2
returns-then-top-reach-2 c pairs names reached top =
    let nothing : Reach = record { end = 0; least = 0; most = 0 } in
    span-found pairs names c.args.place c.args.top _ _ _ (reached.reached c.args.top nothing (omega arith) (omega (arith, c.requires, reached.long)))
    top c.if-place-reach.true c.if-top-reach.true c.if-reach.true
