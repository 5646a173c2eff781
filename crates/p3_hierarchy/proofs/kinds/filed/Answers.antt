use Rattle.p3_hierarchy.proofs.KindLemmas.{filed-more}
use Rattle.p3_hierarchy.proofs.kinds.filed.Goals as goal

pub loop-kind-preserved : goal.loop-kind-preserved
loop-kind-preserved c = filed-more c.args.kinds.now c.loop-kind.kind-index c.kind-item.result _ _ c.loop-kind-test.true c.kind-item.is c.loop-kind.invariant c.in_ok-file_kind.ensures
