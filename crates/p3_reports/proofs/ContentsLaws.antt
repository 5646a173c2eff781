-- What is found is printed as the definitions of lines say.
use Rattle.std.proofs.Common.{◌≡◌, ◌∙◌, ◌++◌, ◌^◌, ℕ, length}
use Rattle.std.specs.Prelude.{ℤ, codes, pos}
use Rattle.std.specs.Fmt.{decimal, signed_decimal}
use Rattle.std.proofs.lemmas.List.Folds.{flat_map-map}
use Rattle.p3_task.specs.Costs.{cost_places}
use Rattle.p3_task.specs.Metrics.{cost, metric_places, value}
use Rattle.p3_task.specs.Plans.{Plan}
use Rattle.p3_task.specs.PreferenceNames.{ordered_names}
use Rattle.p3_tree.specs.Reports.Lines.{entry, line}
use Rattle.p3_tree.specs.Reports.Plans.{embedded_lines, evaluated_lines, generated_lines, lifted_lines, steps_line}
use Rattle.p3_tree.specs.Reports.Quantities.{shown_quantity}
use Rattle.p3_tree.specs.Reports.Tasks.{compiled_lines, direction_name, scale_line}
use Rattle.p3_task.specs.declared.task.Task.{Task}
use Rattle.p3_reports.specs.Contents.{IsCompileReport, IsEmbedReport, IsEvaluateReport, IsGenerateReport, IsLiftReport, IsQuantity, count_of}
use Rattle.p3_reports.specs.Parts.{count_text, counts_text, quantity_text}
use Rattle.p3_reports.specs.Reports.{compile_text, embed_text, evaluate_text, generate_text, lift_text}
use Rattle.p3_reports.specs.declared.quantity.Quantity.{Quantity}
use Rattle.p3_reports.specs.declared.report.CompileReport.{CompileReport}
use Rattle.p3_reports.specs.declared.report.EmbedReport.{EmbedReport}
use Rattle.p3_reports.specs.declared.report.EvaluateReport.{EvaluateReport}
use Rattle.p3_reports.specs.declared.report.GenerateReport.{GenerateReport}
use Rattle.p3_reports.specs.declared.report.LiftReport.{LiftReport}

pub quantity_is : {quantity : Quantity} {decimals : ℕ} {amount : ℤ} → IsQuantity quantity decimals amount → quantity_text quantity ≡ shown_quantity decimals amount
quantity_is is = λ i. shown_quantity (is.places i) (is.units i)

pub compile_report_is : (T : Task) (report : CompileReport) → IsCompileReport T report → compile_text report ≡ compiled_lines T
compile_report_is T report is = λ i.
    steps_line (is.steps i)
    ++ entry (codes "preferences") (decimal (is.preferences i))
    ++ entry (codes "base") (quantity_is is.base i)
    ++ entry (codes "direction") (direction_name (is.direction i))
    ++ scale_line (10 ^ is.base.places i)

pub embed_report_is : (T : Task) (len : ℕ) (cost : ℤ) (report : EmbedReport) → IsEmbedReport T len cost report → embed_text report ≡ embedded_lines T len cost
embed_report_is T len cost report is = λ i.
    compile_report_is T report.task is.of_task i
    ++ entry (codes "embedded") (decimal (is.steps i))
    ++ entry (codes "cost") (signed_decimal (is.units i))

pub evaluate_report_is : (T : Task) (plan : Plan) (report : EvaluateReport) → IsEvaluateReport T plan report → evaluate_text report ≡ evaluated_lines T plan
evaluate_report_is T plan report is =
    (λ i.
    line (codes "valid")
    ++ steps_line (is.steps i)
    ++ entry (codes "cost") (quantity_is is.cost i)
    ++ counts_text (is.violations i)
    ++ entry (codes "metric") (quantity_is is.metric i))
    ∙ (λ i.
    line (codes "valid")
    ++ steps_line (length plan)
    ++ entry (codes "cost") (shown_quantity (cost_places T) (pos (cost T plan)))
    ++ flat_map-map count_text (count_of T plan) (ordered_names T) i
    ++ entry (codes "metric") (shown_quantity (metric_places T) (value T plan)))

pub lift_report_is : (T : Task) (plan : Plan) (cost : ℤ) (report : LiftReport) → IsLiftReport T plan cost report → lift_text report ≡ lifted_lines T plan cost
lift_report_is T plan cost report is = λ i.
    steps_line (is.steps i)
    ++ entry (codes "cost") (signed_decimal (is.units i))
    ++ entry (codes "metric") (quantity_is is.metric i)

pub generate_report_is : (T : Task) (plan : Plan) (len : ℕ) (cost : ℤ) (report : GenerateReport) → IsGenerateReport T plan len cost report
    → generate_text report ≡ generated_lines T plan len cost
generate_report_is T plan len cost report is = λ i.
    steps_line (is.steps i)
    ++ entry (codes "preferences") (decimal (is.preferences i))
    ++ entry (codes "plan") (decimal (is.of_plan i))
    ++ entry (codes "embedded") (decimal (is.embedded i))
    ++ entry (codes "cost") (signed_decimal (is.units i))
    ++ entry (codes "metric") (quantity_is is.metric i)
