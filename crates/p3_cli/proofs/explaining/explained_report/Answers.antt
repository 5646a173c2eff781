use Rattle.std.proofs.Common.{◌∙◌, ap, map, sym}
use Rattle.std.specs.Prelude.{option_map}
use Rattle.p3_reports.specs.Explained.{named_in}
use Rattle.p3_reports.specs.Faults.{fault_named}
use Rattle.p3_reports.specs.declared.explanation.ExplainReport.{ExplainReport}
use Rattle.p3_reports.proofs.ExplainedLaws.{explain_report_is}
use Rattle.p3_cli.proofs.explaining.explained_report.Goals as goal

pub returns : goal.returns
returns c = λ plan are.
    let T = c.args.grounded.now.checked.now.task in
    let report : ExplainReport = record { fault = c.first_named.result; reasons = c.in_ok-reasons.reasons } in
    explain_report_is T plan report (record {
      fault = c.first_named.ensures ∙ sym (ap (option_map fault_named) (c.requires.fault plan are));
      reasons = c.in_ok-reasons.ensures plan are ∙ ap (map (named_in T plan)) (c.items.ensures ∙ c.requires.reasons plan are);
    })
