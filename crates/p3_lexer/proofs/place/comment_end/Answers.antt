use Rattle.std.proofs.Common.{false, true, length, arith}
use Rattle.p3_lexer.proofs.TokenLemmas.{comment_ends, comment_goes_on, gap_end_at}
use Rattle.p3_lexer.proofs.place.comment_end.Goals as goal

pub returns-then-text-place-eq10-clause-end : goal.returns-then-text-place-eq10-clause-end
returns-then-text-place-eq10-clause-end c =
    omega (arith, c.loop-place.invariant, comment_ends c.args.text.now c.loop-place.place c.loop-place-test.true c.if-text-place-eq10.true)

pub loop-place-preserved : goal.loop-place-preserved
loop-place-preserved c =
    omega (arith, c.loop-place.invariant, comment_goes_on c.args.text.now c.loop-place.place c.loop-place-test.true c.if-text-place-eq10.false)

pub returns-clause-end : goal.returns-clause-end
returns-clause-end c =
    let text = c.args.text.now in
    omega (arith, c.loop-place.invariant, gap_end_at true text c.loop-place.place c.loop-place-test.false, gap_end_at false text (length text) (omega arith))
