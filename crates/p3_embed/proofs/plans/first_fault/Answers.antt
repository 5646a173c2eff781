use Rattle.std.proofs.Common.{subst, sym}
use Rattle.std.specs.List.{All}
use Rattle.p3_task.proofs.StepNumberLaws.{steps_have_numbers}
use Rattle.p3_ground.specs.StandsFor.{LeftOutAt}
use Rattle.p3_run.specs.Runs.{Ran}
use Rattle.p3_eval.specs.Runs.{BelongTogether}
use Rattle.p3_eval.proofs.StepsLemmas.{all_numbered}
use Rattle.p3_embed.proofs.plans.first_fault.Goals as goal

pub returns-clause-done : goal.returns-clause-done
returns-clause-done c none plan first =
    let T = c.args.task.now.checked.task in
    let steps = c.args.steps.now in
    let begins = sym c.in_ok-run.ensures.begun in
    let all = subst (λ (ran : Ran). BelongTogether T ran.task ran.weights) begins c.begin.ensures.task in
    let left = subst (λ (ran : Ran). All (LeftOutAt T ran.task) steps.numbers.items) begins (λ k d within. c.begin.ensures.left_out _) in
    let done = (c.judge_steps.ensures.judged T all left plan first).done none in
    all_numbered T (steps_have_numbers T c.begin.ensures.task.well) plan _ done.numbers steps.numbers.items steps.rest first
