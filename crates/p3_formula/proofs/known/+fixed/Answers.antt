use Rattle.std.proofs.Common.{◌∙◌}
use Rattle.p3_formula.proofs.LiteralLaws.{one_part_more}
use Rattle.p3_formula.proofs.known.+fixed.Goals as goal

pub note_where-loop-part-preserved : goal.note_where-loop-part-preserved
note_where-loop-part-preserved t c =
    one_part_more c.args.every c.loop-part.known c.note_fixed.new.known c.args.parts.now c.loop-part.part-index c.part-item.result
    c.loop-part-test.true c.part-item.is c.in_ok-note_fixed.ensures ∙ c.loop-part.invariant
