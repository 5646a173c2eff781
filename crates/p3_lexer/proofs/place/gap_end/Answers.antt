use Rattle.std.proofs.Common.{false, sym, ◌∙◌, arith}
use Rattle.p3_lexer.proofs.TokenLemmas.{blank_passed, comment_opens, no_gap_at, gap_end_at}
use Rattle.p3_lexer.proofs.place.gap_end.Goals as goal

pub loop-place-preserved-then-is_blank_byte : goal.loop-place-preserved-then-is_blank_byte
loop-place-preserved-then-is_blank_byte c =
    let passed = blank_passed c.args.text.now c.loop-place.place c.loop-place-test.true (sym c.is_blank_byte.ensures ∙ c.if-is_blank_byte.true) in
    record {
      within = omega (arith, c.loop-place-test.true);
      gap = omega (arith, c.loop-place.invariant.gap, passed);
    }

pub loop-place-preserved : goal.loop-place-preserved
loop-place-preserved c =
    let opened = comment_opens c.args.text.now c.loop-place.place c.loop-place-test.true c.if-text-place-eq59.true in
    record {
      within = c.comment_end-place.ensures.within;
      gap = omega (arith, c.loop-place.invariant.gap, opened, c.comment_end-place.ensures.end);
    }

pub returns-else-text-place-eq59-clause-end : goal.returns-else-text-place-eq59-clause-end
returns-else-text-place-eq59-clause-end c =
    let none = no_gap_at c.args.text.now c.loop-place.place c.loop-place-test.true (sym c.is_blank_byte.ensures ∙ c.if-is_blank_byte.false) c.if-text-place-eq59.false in
    omega (arith, c.loop-place.invariant.gap, none)

pub returns-clause-end : goal.returns-clause-end
returns-clause-end c =
    omega (arith, c.loop-place.invariant.gap, gap_end_at false c.args.text.now c.loop-place.place c.loop-place-test.false)
