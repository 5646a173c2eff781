use Rattle.std.proofs.Common.{arith}
use Rattle.p3_accounts.specs.Vocabularies.{vocabulary}
use Rattle.p3_reports.proofs.PutLemmas.{all_put, on_err, one_more_put, partly_put}
use Rattle.p3_accounts.proofs.item.put_all.Goals as goal

pub returns-in_err-put-clause-partly : goal.returns-in_err-put-clause-partly
returns-in_err-put-clause-partly g c =
    on_err c.from_residual.result
    (partly_put (g.T.Printed.text (vocabulary c.args.terms.now)) c.args.things.now c.loop-thing.thing-index c.thing-item.result _ _ _ c.loop-thing-test.true c.thing-item.is c.loop-thing.invariant.put c.in_err-put.ensures.partly)

pub returns-clause-ok : goal.returns-clause-ok
returns-clause-ok g c = all_put (g.T.Printed.text (vocabulary c.args.terms.now)) c.args.things.now c.loop-thing.thing-index _ _ c.loop-thing-test.false c.loop-thing.invariant.put

pub loop-thing-preserved : goal.loop-thing-preserved
loop-thing-preserved g c = record {
  put = one_more_put (g.T.Printed.text (vocabulary c.args.terms.now)) c.args.things.now c.loop-thing.thing-index c.thing-item.result _ _ _ c.loop-thing-test.true c.thing-item.is c.loop-thing.invariant.put c.in_ok-put.ensures.ok;
  faults_grow = omega (arith, c.loop-thing.invariant.faults_grow, c.put.ensures.faults_grow);
}
