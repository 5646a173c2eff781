use Rattle.std.proofs.Common.{sym, subst}
use Rattle.p3_eval.specs.Runs.{IsRun}
use Rattle.p3_eval.proofs.RunKept.{begun_is_run, can_be_run}
use Rattle.p3_eval.proofs.run.Run.open.Goals as goal

pub open-requires : goal.open-requires
open-requires c = can_be_run c.args.task.now c.args.weights.now c.requires

pub invariant_of-result : goal.invariant_of-result
invariant_of-result c = subst IsRun (sym c.in_ok-ground_run.ensures) (begun_is_run c.args.task.now c.args.weights.now c.requires)
