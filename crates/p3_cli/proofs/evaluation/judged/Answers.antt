use Rattle.std.proofs.Common.{subst, sym}
use Rattle.std.specs.Prelude.{IfErr, IfOk}
use Rattle.p3_reports.specs.Reports.{report_text}
use Rattle.p3_types.specs.declared.checked.Checked.{Checked}
use Rattle.p3_eval.specs.Steps.{AreOfPlan, OfSteps}
use Rattle.p3_cli.specs.Evaluation.{IsFaultOf, IsReportOf}
use Rattle.p3_cli.specs.Refusing.{IsRejectedBy}
use Rattle.p3_cli.proofs.evaluation.judged.Goals as goal

pub judged_by-report-requires-clause-some : goal.judged_by-report-requires-clause-some
judged_by-report-requires-clause-some c = subst (λ (checked : Checked). AreOfPlan checked.task c.args.steps.now) (sym c.grounded.ensures.checked) c.requires

pub returns-clause-report : goal.returns-clause-report
returns-clause-report c =
    subst (λ (checked : Checked). IfOk c.judged_by-report.result (λ report. OfSteps checked.task c.args.steps.now (IsReportOf checked.task (report_text report)))) c.grounded.ensures.checked
    c.judged_by-report.ensures.report

pub returns-clause-err : goal.returns-clause-err
returns-clause-err c =
    subst (λ (checked : Checked). IfErr c.judged_by-report.result (IsRejectedBy (λ how. OfSteps checked.task c.args.steps.now (IsFaultOf checked.task how)))) c.grounded.ensures.checked
    c.judged_by-report.ensures.err
