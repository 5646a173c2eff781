use Rattle.p3_cli.specs.Evaluation.{given_plan}
use Rattle.p3_cli.specs.Refusing.{IsRefusal}
use Rattle.p3_cli.specs.Texts.{all_texts}
use Rattle.p3_cli.proofs.SpelledLemmas.{behind, plan_of_plan, plan_of_task}
use Rattle.p3_cli.proofs.evaluation.judged_whole.Goals as goal

pub returns-in-Err-clause-err : goal.returns-in-Err-clause-err
returns-in-Err-clause-err c =
    let texts = all_texts c.args.texts.now in
    let task = c.in_ok-task in
    behind texts (IsRefusal (given_plan texts) texts) c.in-Err.ending c.behind_plan.result c.behind_plan.ensures
    (λ free. plan_of_task texts task.task task.ensures.spelled free c.in-Err.ending c.in-Err.ensures.err) (plan_of_plan texts task.task task.ensures.spelled)

pub returns-in-Err-steps_of-clause-err : goal.returns-in-Err-steps_of-clause-err
returns-in-Err-steps_of-clause-err c = let task = c.in_ok-task in plan_of_plan (all_texts c.args.texts.now) task.task task.ensures.spelled c.in-Err-steps_of.ending c.in-Err-steps_of.ensures.err
