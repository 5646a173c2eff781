use Rattle.p3_reports.specs.Parts.{count_text}
use Rattle.p3_reports.proofs.PutLemmas.{all_put, partly_put, on_err}
use Rattle.p3_reports.proofs.part.put_violations.Goals as goal

pub returns-in_err-put_count-clause-partly : goal.returns-in_err-put_count-clause-partly
returns-in_err-put_count-clause-partly g c =
    on_err c.from_residual.result
    (partly_put count_text c.args.counts.now c.loop-entry.entry-index c.entry-item.result _ _ _ c.loop-entry-test.true c.entry-item.is c.loop-entry.invariant.put c.in_err-put_count.ensures.partly)

pub returns-clause-ok : goal.returns-clause-ok
returns-clause-ok g c = all_put count_text c.args.counts.now c.loop-entry.entry-index _ _ c.loop-entry-test.false c.loop-entry.invariant.put
