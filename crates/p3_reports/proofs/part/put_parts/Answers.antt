use Rattle.p3_reports.specs.Parts.{part_text}
use Rattle.p3_reports.proofs.PutLemmas.{all_joined, partly_joined, on_err}
use Rattle.p3_reports.proofs.part.put_parts.Goals as goal

pub returns-in_err-put_part-clause-partly : goal.returns-in_err-put_part-clause-partly
returns-in_err-put_part-clause-partly g c =
    on_err c.from_residual.result
    (partly_joined part_text c.args.parts.now c.loop-part.part-index c.part-item.result _ _ _ c.loop-part-test.true c.part-item.is c.loop-part.invariant.put c.in_err-put_part.ensures.partly)

pub returns-clause-ok : goal.returns-clause-ok
returns-clause-ok g c = all_joined part_text c.args.parts.now c.loop-part.part-index _ _ c.loop-part-test.false c.loop-part.invariant.put
