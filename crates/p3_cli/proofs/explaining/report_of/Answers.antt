use Rattle.std.proofs.Common.{subst}
use Rattle.std.specs.Prelude.{IfErr, IfOk}
use Rattle.p3_reports.specs.Reports.{report_text}
use Rattle.p3_types.specs.declared.checked.Checked.{Checked}
use Rattle.p3_eval.specs.Steps.{OfSteps}
use Rattle.p3_cli.specs.Explaining.{IsExplained, IsUnfit}
use Rattle.p3_cli.specs.Refusing.{IsRejectedBy}
use Rattle.p3_cli.proofs.explaining.report_of.Goals as goal

pub returns-clause-report : goal.returns-clause-report
returns-clause-report c =
    subst (λ (checked : Checked). IfOk c.grounded_report-report.result (λ report. OfSteps checked.task c.args.steps.now (IsExplained checked.task (report_text report)))) c.grounded.ensures.checked
    c.grounded_report-report.ensures.report

pub returns-clause-err : goal.returns-clause-err
returns-clause-err c =
    subst (λ (checked : Checked). IfErr c.grounded_report-report.result (IsRejectedBy (λ how. OfSteps checked.task c.args.steps.now (IsUnfit checked.task how)))) c.grounded.ensures.checked
    c.grounded_report-report.ensures.err
