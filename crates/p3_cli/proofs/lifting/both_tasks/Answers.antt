use Rattle.p3_cli.specs.Lifting.{given_lift}
use Rattle.p3_cli.specs.Refusing.{IsRefusal}
use Rattle.p3_cli.specs.Texts.{all_texts}
use Rattle.p3_cli.proofs.SpelledLemmas.{behind, lift_of_other, lift_of_plan, lift_of_task}
use Rattle.p3_cli.proofs.lifting.both_tasks.Goals as goal

pub returns-in-Err-clause-err : goal.returns-in-Err-clause-err
returns-in-Err-clause-err c =
    let texts = all_texts c.args.texts.now in
    let both = c.in_ok-source in
    behind texts (IsRefusal (given_lift texts) texts) c.in-Err.ending c.behind_plan.result c.behind_plan.ensures
    (λ free. lift_of_task texts both.source both.ensures.source both.written both.ensures.written free c.in-Err.ending c.in-Err.ensures.err)
    (lift_of_plan texts both.source both.ensures.source both.written both.ensures.written)

pub returns-in-Err-accepted-clause-err : goal.returns-in-Err-accepted-clause-err
returns-in-Err-accepted-clause-err c =
    let texts = all_texts c.args.texts.now in
    let both = c.in_ok-source in
    behind texts (IsRefusal (given_lift texts) texts) c.in-Err-accepted.ending c.behind_plan-in-Err-accepted.result c.behind_plan-in-Err-accepted.ensures
    (λ free. lift_of_other texts both.source both.ensures.source both.written both.ensures.written free (record { task = c.in-Ok.source.checked.task; are_of = c.in-Ok.ensures.accepted.task })
    c.in-Err-accepted.ending c.in-Err-accepted.ensures.err)
    (lift_of_plan texts both.source both.ensures.source both.written both.ensures.written)
