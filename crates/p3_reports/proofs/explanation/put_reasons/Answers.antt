use Rattle.std.proofs.Common.{arith}
use Rattle.p3_reports.specs.Explained.{reason_text}
use Rattle.p3_reports.proofs.PutLemmas.{all_put, on_err, one_more_put, partly_put}
use Rattle.p3_reports.proofs.explanation.put_reasons.Goals as goal

pub returns-in_err-put_reason-clause-partly : goal.returns-in_err-put_reason-clause-partly
returns-in_err-put_reason-clause-partly g c =
    on_err c.from_residual.result
    (partly_put reason_text c.args.reasons.now c.loop-reason.reason-index c.reason-item.result _ _ _ c.loop-reason-test.true c.reason-item.is c.loop-reason.invariant.put c.in_err-put_reason.ensures.partly)

pub returns-clause-ok : goal.returns-clause-ok
returns-clause-ok g c = all_put reason_text c.args.reasons.now c.loop-reason.reason-index _ _ c.loop-reason-test.false c.loop-reason.invariant.put

pub loop-reason-preserved : goal.loop-reason-preserved
loop-reason-preserved g c = record {
  put = one_more_put reason_text c.args.reasons.now c.loop-reason.reason-index c.reason-item.result _ _ _ c.loop-reason-test.true c.reason-item.is c.loop-reason.invariant.put c.in_ok-put_reason.ensures.ok;
  faults_grow = omega (arith, c.loop-reason.invariant.faults_grow, c.put_reason.ensures.faults_grow);
}
