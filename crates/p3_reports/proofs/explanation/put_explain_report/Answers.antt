use Rattle.std.proofs.Common.{◌++◌, subst}
use Rattle.p3_base.specs.Outside.{IsPartlyPut}
use Rattle.std.proofs.lemmas.Result.{on_err_weaker}
use Rattle.p3_reports.specs.Explained.{reasons_text, verdict_text}
use Rattle.p3_reports.proofs.PutLemmas.{on_err, partly_first, partly_second}
use Rattle.p3_reports.proofs.explanation.put_explain_report.Goals as goal

pub returns-in_err-put_verdict-clause-partly : goal.returns-in_err-put_verdict-clause-partly
returns-in_err-put_verdict-clause-partly g c =
    on_err c.from_residual.result (partly_first (verdict_text c.args.report.now.fault) (reasons_text c.args.report.now.reasons) _ _ c.in_err-put_verdict.ensures.partly)

pub returns-clause-partly : goal.returns-clause-partly
returns-clause-partly g c =
    let verdict = verdict_text c.args.report.now.fault in
    on_err_weaker c.put_reasons.result
    (λ partly.
    subst (λ reasons. IsPartlyPut (verdict ++ reasons_text reasons) (g.S.Sink.seen c.args.out.now).written (g.S.Sink.seen c.put_reasons.new.out).written) c.items.ensures
    (partly_second verdict (reasons_text c.items.result.now) _ _ _ c.in_ok-put_verdict.ensures.ok partly))
    c.put_reasons.ensures.partly
