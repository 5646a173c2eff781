use Rattle.p3_reports.specs.Reports.{report_text}
use Rattle.p3_cli.specs.Texts.{all_texts}
use Rattle.p3_cli.proofs.ProductLemmas.{is_evaluation, rejected_plan}
use Rattle.p3_cli.proofs.ResultLemmas.{if_err, if_ok}
use Rattle.p3_cli.proofs.evaluation.evaluate.Goals as goal

pub returns-clause-report : goal.returns-clause-report
returns-clause-report c =
    let task = c.in_ok-accepted in
    if_ok c.judged-report.result (λ report told.
    is_evaluation (all_texts c.args.texts.now) task.accepted.checked.task task.ensures.accepted task.ensures.free task.steps
    task.ensures.are (report_text report) told)
    c.judged-report.ensures.report

pub returns-clause-err : goal.returns-clause-err
returns-clause-err c =
    let task = c.in_ok-accepted in
    if_err c.judged-report.result
    (rejected_plan (all_texts c.args.texts.now) task.accepted.checked.task task.ensures.accepted task.ensures.free task.steps
    task.ensures.are)
    c.judged-report.ensures.err
