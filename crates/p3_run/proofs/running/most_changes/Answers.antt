use Rattle.std.proofs.Common.{arith}
use Rattle.p3_run.proofs.RunLaws.{changes_more}
use Rattle.p3_run.proofs.running.most_changes.Goals as goal

pub loop-step-preserved : goal.loop-step-preserved
loop-step-preserved c =
    changes_more c.args.steps.now c.loop-step.step-index c.loop-step.most c.max-most.result c.step-item.result c.loop-step-test.true c.step-item.is c.loop-step.invariant
    (omega (arith, c.max-most.ensures)) (omega (arith, c.max-most.ensures, c.len.ensures))
