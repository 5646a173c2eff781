use Rattle.p3_resolve.specs.Walk.{uses_of_num}
use Rattle.p3_resolve.proofs.FormLemmas.{tree-more}
use Rattle.p3_resolve.proofs.metric.+nums.Goals as goal

pub nums_noted-loop-part-preserved : goal.nums_noted-loop-part-preserved
nums_noted-loop-part-preserved t c =
    tree-more uses_of_num c.args.tables.now.task.now c.args.walk.now c.loop-part.walk c.num_noted.new.walk c.args.parts.now c.loop-part.part-index c.part-item.result
    c.loop-part-test.true c.part-item.is c.loop-part.invariant c.in_ok-num_noted.ensures
