use Rattle.std.proofs.Common.{rules, ◌≡◌, ◌∙◌, ◌*◌, ◌^◌, ◌≤◌, length, sym, ap, arith}
use Rattle.p3_expansion.proofs.ChoiceLemmas.{count-end, count-least, product-next}
use Rattle.p3_expansion.proofs.choices.choice_count.Goals as goal

pub loop-range-preserved : goal.loop-range-preserved
loop-range-preserved c =
    let product : c.in-Some.more ≡ c.loop-range.count * length c.objects_of.result.now = search rules in
    product-next c.args.numbers.now c.args.ranges.now c.loop-range.range-index 0 c.loop-range.count c.in-Some.more c.objects_of.result.now c.loop-range-test.true c.objects_of.ensures product ∙ c.loop-range.invariant

pub returns : goal.returns
returns c = let e = count-end c.args.numbers.now c.args.ranges.now c.loop-range.range-index c.loop-range-test.false in
    let i = c.loop-range.invariant in
    let one : c.loop-range.count ≡ c.loop-range.count * 1 = omega arith in
    one ∙ ap (λ n. c.loop-range.count * n) (sym e) ∙ i

pub returns-in-None : goal.returns-in-None
returns-in-None c =
    let large : 2 ^ 64 ≤ c.loop-range.count * length c.objects_of.result.now = search rules in
    let least = count-least c.args.numbers.now c.args.ranges.now c.loop-range.range-index 0 c.loop-range.count c.objects_of.result.now c.loop-range-test.true c.objects_of.ensures c.loop-range.invariant c.if-has_empty.ensures.some in
    omega (arith, large, least)
