-- What is found of a plan whose steps fit, and what that is printed as.
use Rattle.std.specs.Prelude.{ℕ, ◌≡◌, List, ◌++◌, codes, flat_map, map, Option, Some, None, option_map}
use Rattle.std.specs.Fmt.{decimal}
use Rattle.p3_base.specs.declared.showing.Reason.{Reason}
use Rattle.p3_base.specs.declared.showing.Subject.{Subject}
use Rattle.p3_base.specs.declared.showing.Subject.TheVariants.{Hard, Soft, Pre}
use Rattle.p3_task.specs.Explanations.{reasons, subject_name}
use Rattle.p3_task.specs.Names.{Name}
use Rattle.p3_task.specs.Plans.{Plan}
use Rattle.p3_tree.specs.Reports.Explanations.{showing_text, shown_name}
use Rattle.p3_tree.specs.Reports.Lines.{line}
use Rattle.p3_tree.specs.Reports.Plans.{fault_line}
use Rattle.p3_task.specs.Validity.{first_fault}
use Rattle.p3_task.specs.declared.task.Task.{Task}
use Rattle.p3_reports.specs.Faults.{fault_named, fault_of}
use Rattle.p3_reports.specs.declared.explanation.ExplainReport.{ExplainReport}
use Rattle.p3_reports.specs.declared.explanation.NamedReason.{NamedReason}
use Rattle.p3_reports.specs.declared.fault.Fault.{Fault}

-- ---- what is printed

abbrev pub name_text : Option Name → List ℕ
name_text name = shown_name name

-- what a reason is of
abbrev pub subject_named : Option Name → Subject → List ℕ
subject_named name (Hard number) = codes "constraint " ++ decimal number
subject_named name (Soft instance part) = codes "instance " ++ decimal instance ++ codes " " ++ name_text name ++ codes " part " ++ decimal part
subject_named name (Pre step pref) = codes "step " ++ decimal step ++ codes " " ++ name_text name ++ codes " number " ++ decimal pref

abbrev pub reason_text : NamedReason → List ℕ
reason_text named = line (subject_named named.name named.reason.subject ++ codes ": " ++ showing_text named.reason.showing)

abbrev pub reasons_text : List NamedReason → List ℕ
reasons_text reasons = flat_map reason_text reasons

abbrev pub verdict_text : Option Fault → List ℕ
verdict_text None = line (codes "valid")
verdict_text (Some fault) = fault_line (fault_of fault)

abbrev pub explain_text : ExplainReport → List ℕ
explain_text report = verdict_text report.fault ++ reasons_text report.reasons

-- ---- what is found

abbrev pub named_in : Task → Plan → Reason → NamedReason
named_in T plan reason = record { reason = reason; name = subject_name T plan reason.subject }

-- the first fault of the plan, and the reasons with the names of their preferences
pub record IsExplainReport (T : Task) (plan : Plan) (report : ExplainReport) : Type 0 where
  pub fault : report.fault ≡ option_map fault_named (first_fault T plan)
  pub reasons : report.reasons ≡ map (named_in T plan) (reasons T plan)
