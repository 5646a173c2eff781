use Rattle.p3_reports.specs.Reports.{report_text}
use Rattle.p3_cli.specs.Texts.{all_texts}
use Rattle.p3_cli.proofs.ProductLemmas.{is_explanation, unexplained_plan}
use Rattle.p3_cli.proofs.ResultLemmas.{if_err, if_ok}
use Rattle.p3_cli.proofs.explaining.explain.Goals as goal

pub returns-clause-report : goal.returns-clause-report
returns-clause-report c =
    let task = c.in_ok-accepted in
    if_ok c.report_of-report.result (λ report told.
    is_explanation (all_texts c.args.texts.now) task.accepted.checked.task task.ensures.accepted task.ensures.free task.steps
    task.ensures.are (report_text report) told)
    c.report_of-report.ensures.report

pub returns-clause-err : goal.returns-clause-err
returns-clause-err c =
    let task = c.in_ok-accepted in
    if_err c.report_of-report.result
    (unexplained_plan (all_texts c.args.texts.now) task.accepted.checked.task task.ensures.accepted task.ensures.free task.steps
    task.ensures.are)
    c.report_of-report.ensures.err
