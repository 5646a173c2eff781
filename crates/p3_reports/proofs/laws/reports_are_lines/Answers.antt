use Rattle.std.proofs.Common.{refl}
use Rattle.p3_reports.proofs.ExplainedLaws.{explain_report_is}
use Rattle.p3_reports.proofs.ContentsLaws.{compile_report_is, embed_report_is, evaluate_report_is, generate_report_is, lift_report_is}
use Rattle.p3_reports.proofs.laws.reports_are_lines.Goals as goal

pub returns : goal.returns
returns c = record {
  compile = compile_report_is;
  embed = embed_report_is;
  evaluate = evaluate_report_is;
  lift = lift_report_is;
  generate = generate_report_is;
  explain = explain_report_is;
  refusal = λ text refusal. refl;
}
