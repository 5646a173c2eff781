use Rattle.std.proofs.Common.{◌∙◌, rules}
use Rattle.std.proofs.lemmas.Int.{to_z-of_z}
use Rattle.std.proofs.lemmas.Slice.Zip.{AllZip-long}
use mir.Syntax.{w128}
use mir.Val.{SFits}
use Rattle.p3_task.specs.StepNumbers.{HasNumber}
use Rattle.p3_reports.specs.declared.report.EvaluateReport.{EvaluateReport}
use Rattle.p3_reports.proofs.ContentsLaws.{evaluate_report_is}
use Rattle.p3_cli.proofs.report_parts.evaluated_report.Goals as goal

pub returns : goal.returns
returns c = λ plan are.
    let T = c.args.checked.now.task in
    let fits : SFits w128 c.metric.result = search rules in
    let report : EvaluateReport = record { steps = c.steps.result; cost = c.cost_of.result; violations = c.in_ok-violations.violations; metric = c.metric_of.result } in
    evaluate_report_is T plan report (record {
      steps = c.steps.ensures.count ∙ AllZip-long (HasNumber T) plan c.args.run.now.plan are;
      cost = c.cost_of.ensures plan are;
      violations = c.in_ok-violations.ensures plan are;
      metric = record { places = c.metric_of.ensures.places; units = c.metric_of.ensures.units ∙ to_z-of_z w128 c.metric.result fits ∙ c.metric.ensures T c.requires.together plan are };
    })
