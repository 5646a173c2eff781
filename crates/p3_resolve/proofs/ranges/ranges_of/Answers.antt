use Rattle.p3_resolve.proofs.HavingLemmas.{have-next}
use Rattle.p3_resolve.proofs.ranges.ranges_of.Goals as goal

pub loop-types-preserved : goal.loop-types-preserved
loop-types-preserved c =
    have-next c.args.kinds.now.task.now c.loop-types.ranges c.push.new.self c.args.lists.now c.loop-types.types-index c.types-item.result c.in_ok-range.field-0 c.loop-types-test.true c.types-item.is
    c.loop-types.invariant c.in_ok-range.ensures c.in_ok-push.ensures.ok
