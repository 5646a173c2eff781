use Rattle.std.proofs.Common.{rules, ◌≡◌, ◌∙◌, ◌<◌, length, sym, ap, subst, arith}
use Rattle.p3_expansion.proofs.ChoiceLemmas.{count-empty, count-end, some-next}
use Rattle.p3_expansion.proofs.choices.has_empty.Goals as goal

pub returns-then-is_empty-clause-none : goal.returns-then-is_empty-clause-none
returns-then-is_empty-clause-none c =
    let none : length c.objects_of.result.now ≡ 0 = search rules in
    count-empty c.args.numbers.now c.args.ranges.now c.loop-range.range-index 0 c.loop-range-test.true (ap length (sym c.objects_of.ensures) ∙ none)

pub loop-range-preserved : goal.loop-range-preserved
loop-range-preserved c =
    let some : 0 < length c.objects_of.result.now = search rules in
    λ behind. c.loop-range.invariant (some-next c.args.numbers.now c.args.ranges.now c.loop-range.range-index 0 c.objects_of.result.now c.loop-range-test.true c.objects_of.ensures some behind)

pub returns-clause-some : goal.returns-clause-some
returns-clause-some c = c.loop-range.invariant (subst (λ n. 0 < n) (sym (count-end c.args.numbers.now c.args.ranges.now c.loop-range.range-index c.loop-range-test.false)) (omega arith))
