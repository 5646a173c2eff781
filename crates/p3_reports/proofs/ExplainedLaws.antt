-- What is found of a plan whose steps fit is printed as the definitions of its lines say.
use Rattle.std.proofs.Common.{◌≡◌, ◌∙◌, ◌++◌, ap, refl}
use Rattle.std.specs.Prelude.{Option, Some, None, codes, flat_map, option_map}
use Rattle.std.proofs.lemmas.List.Folds.{flat_map-map}
use Rattle.p3_base.specs.declared.showing.Reason.{Reason}
use Rattle.p3_base.specs.declared.showing.Subject.{Subject}
use Rattle.p3_base.specs.declared.showing.Subject.TheVariants.{Hard, Soft, Pre}
use Rattle.p3_task.specs.Explanations.{reasons, subject_name}
use Rattle.p3_task.specs.Plans.{Plan}
use Rattle.p3_tree.specs.Reports.Explanations.{explained_lines, reason_line, showing_text, subject_text, verdict_line}
use Rattle.p3_tree.specs.Reports.Lines.{line}
use Rattle.p3_tree.specs.Reports.Plans.{fault_line}
use Rattle.p3_task.specs.Validity.{Fault, first_fault}
use Rattle.p3_task.specs.declared.task.Task.{Task}
use Rattle.p3_reports.specs.Explained.{IsExplainReport, explain_text, named_in, reason_text, reasons_text, subject_named, verdict_text}
use Rattle.p3_reports.specs.Faults.{fault_named}
use Rattle.p3_reports.specs.declared.explanation.ExplainReport.{ExplainReport}
use Rattle.p3_reports.proofs.FaultLemmas.{fault_is}

verdict_is : (fault : Option Fault) → verdict_text (option_map fault_named fault) ≡ verdict_line fault
verdict_is None = refl
verdict_is (Some fault) = ap fault_line (fault_is fault)

subject_is : (T : Task) (plan : Plan) (subject : Subject) → subject_named (subject_name T plan subject) subject ≡ subject_text T plan subject
subject_is T plan (Hard number) = refl
subject_is T plan (Soft instance part) = refl
subject_is T plan (Pre step pref) = refl

reason_is : (T : Task) (plan : Plan) (reason : Reason) → reason_text (named_in T plan reason) ≡ reason_line T plan reason
reason_is T plan reason = ap (λ subject. line (subject ++ codes ": " ++ showing_text reason.showing)) (subject_is T plan reason.subject)

pub explain_report_is : (T : Task) (plan : Plan) (report : ExplainReport) → IsExplainReport T plan report → explain_text report ≡ explained_lines T plan
unfolding explained_lines
explain_report_is T plan report is =
    (λ i. verdict_text (is.fault i) ++ reasons_text (is.reasons i))
    ∙ (λ i. verdict_is (first_fault T plan) i ++ flat_map-map reason_text (named_in T plan) (reasons T plan) i)
    ∙ (λ i. verdict_line (first_fault T plan) ++ flat_map (λ reason. reason_is T plan reason i) (reasons T plan))
