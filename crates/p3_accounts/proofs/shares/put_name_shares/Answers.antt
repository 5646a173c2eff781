use Rattle.std.proofs.Common.{arith}
use Rattle.p3_reports.proofs.PutLemmas.{all_put, on_err, one_more_put, partly_put}
use Rattle.p3_accounts.specs.Shares.{name_share_line}
use Rattle.p3_accounts.proofs.shares.put_name_shares.Goals as goal

pub returns-in_err-put_name_share-clause-partly : goal.returns-in_err-put_name_share-clause-partly
returns-in_err-put_name_share-clause-partly g c =
    on_err c.from_residual.result
    (partly_put (name_share_line c.args.terms.now.numbers.now c.args.places) c.args.shares.now c.loop-share.share-index c.share-item.result _ _ _ c.loop-share-test.true c.share-item.is c.loop-share.invariant.put c.in_err-put_name_share.ensures.partly)

pub returns-clause-ok : goal.returns-clause-ok
returns-clause-ok g c = all_put (name_share_line c.args.terms.now.numbers.now c.args.places) c.args.shares.now c.loop-share.share-index _ _ c.loop-share-test.false c.loop-share.invariant.put

pub loop-share-preserved : goal.loop-share-preserved
loop-share-preserved g c = record {
  put = one_more_put (name_share_line c.args.terms.now.numbers.now c.args.places) c.args.shares.now c.loop-share.share-index c.share-item.result _ _ _ c.loop-share-test.true c.share-item.is c.loop-share.invariant.put c.in_ok-put_name_share.ensures.ok;
  faults_grow = omega (arith, c.loop-share.invariant.faults_grow, c.put_name_share.ensures.faults_grow);
}
