use Rattle.std.proofs.Common.{subst, sym}
use Rattle.p3_ground.specs.StandsFor.{LeavesOutOnlyUnfit}
use Rattle.p3_run.specs.Runs.{Ran}
use Rattle.p3_eval.specs.Runs.{BelongTogether}
use Rattle.p3_eval.proofs.StepCounts.{few_steps}
use Rattle.p3_test_calls.proofs.judged.judge.Goals as goal

pub judge_text-verdict-requires-clause-of : goal.judge_text-verdict-requires-clause-of
judge_text-verdict-requires-clause-of c =
    let T = c.args.whole.now.checked.task in
    let run = c.in_ok-run in
    record {
      together = subst (λ (ran : Ran). BelongTogether T ran.task ran.weights) (sym run.ensures.begun) run.ensures.task;
      left_out = subst (λ (ran : Ran). LeavesOutOnlyUnfit T ran.task) (sym run.ensures.begun) run.ensures.left_out;
      few = few_steps run.ensures.task.side T run.ensures.task.well run.ensures.task.accepted;
    }
