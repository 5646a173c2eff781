-- What each command reports where it is done, by what is found.
use Rattle.std.specs.Prelude.{ℕ, ◌^◌, List, ◌++◌, codes}
use Rattle.std.specs.Fmt.{decimal, signed_decimal}
use Rattle.p3_tree.specs.Reports.Lines.{entry, line}
use Rattle.p3_tree.specs.Reports.Plans.{steps_line}
use Rattle.p3_tree.specs.Reports.Tasks.{direction_name, scale_line}
use Rattle.p3_reports.specs.Explained.{explain_text}
use Rattle.p3_reports.specs.Parts.{counts_text, quantity_text}
use Rattle.p3_reports.specs.declared.report.CompileReport.{CompileReport}
use Rattle.p3_reports.specs.declared.report.EmbedReport.{EmbedReport}
use Rattle.p3_reports.specs.declared.report.EvaluateReport.{EvaluateReport}
use Rattle.p3_reports.specs.declared.report.GenerateReport.{GenerateReport}
use Rattle.p3_reports.specs.declared.report.LiftReport.{LiftReport}
use Rattle.p3_reports.specs.declared.report.Report.{Report}
use Rattle.p3_reports.specs.declared.report.Report.TheVariants as report

abbrev pub compile_text : CompileReport → List ℕ
compile_text report =
    steps_line report.steps
    ++ entry (codes "preferences") (decimal report.preferences)
    ++ entry (codes "base") (quantity_text report.base)
    ++ entry (codes "direction") (direction_name report.direction)
    ++ scale_line (10 ^ report.base.places)

abbrev pub embed_text : EmbedReport → List ℕ
embed_text report =
    compile_text report.task
    ++ entry (codes "embedded") (decimal report.len)
    ++ entry (codes "cost") (signed_decimal report.cost)

abbrev pub evaluate_text : EvaluateReport → List ℕ
evaluate_text report =
    line (codes "valid")
    ++ steps_line report.steps
    ++ entry (codes "cost") (quantity_text report.cost)
    ++ counts_text report.violations
    ++ entry (codes "metric") (quantity_text report.metric)

abbrev pub lift_text : LiftReport → List ℕ
lift_text report =
    steps_line report.steps
    ++ entry (codes "cost") (signed_decimal report.cost)
    ++ entry (codes "metric") (quantity_text report.metric)

abbrev pub generate_text : GenerateReport → List ℕ
generate_text report =
    steps_line report.steps
    ++ entry (codes "preferences") (decimal report.preferences)
    ++ entry (codes "plan") (decimal report.plan)
    ++ entry (codes "embedded") (decimal report.embedded)
    ++ entry (codes "cost") (signed_decimal report.cost)
    ++ entry (codes "metric") (quantity_text report.metric)

abbrev pub report_text : Report → List ℕ
report_text (report.Compile found) = compile_text found
report_text (report.Embed found) = embed_text found
report_text (report.Evaluate found) = evaluate_text found
report_text (report.Lift found) = lift_text found
report_text (report.Generate found) = generate_text found
report_text (report.Explain found) = explain_text found
