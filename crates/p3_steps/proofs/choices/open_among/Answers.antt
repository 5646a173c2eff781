use Rattle.std.proofs.Common.{◌∙◌, arith, refl}
use Rattle.p3_steps.specs.Possible.{may_yet_begin}
use Rattle.p3_steps.proofs.AmongLemmas.{among-all, among-more}
use Rattle.p3_steps.proofs.choices.open_among.Goals as goal

pub overflow_sub-choice : goal.overflow_sub-choice
overflow_sub-choice c = let from = c.requires.from c.loop-number.number-index 0 c.loop-number-test.true in omega (arith, from)

pub place_choice-requires-clause-within : goal.place_choice-requires-clause-within
place_choice-requires-clause-within c =
    let from = c.requires.from c.loop-number.number-index 0 c.loop-number-test.true in
    let within = c.requires.within c.loop-number.number-index 0 c.loop-number-test.true in
    let counted = c.in_ok-count.ensures in
    omega (arith, from, within, counted)

pub loop-number-preserved : goal.loop-number-preserved
loop-number-preserved c =
    let same = c.in_ok-test.ensures in
    among-more c.args.numbers.now c.args.statics.now c.args.ranges.now c.args.goal.now c.args.first c.args.those.now c.loop-number.number-index _ c.in_ok-may.may c.loop-number.kept.items c.keep_choice.new.kept.items
    c.loop-number-test.true refl
    (c.in_ok-may.ensures ∙ (λ i. may_yet_begin (same.numbers i) (same.statics i) ((c.as_slice.ensures.value ∙ c.in_ok-place_choice.ensures) i) (same.goal i)))
    c.loop-number.invariant c.in_ok-keep_choice.ensures

pub returns : goal.returns
returns c = c.loop-number.invariant ∙ among-all c.args.numbers.now c.args.statics.now c.args.ranges.now c.args.goal.now c.args.first c.args.those.now c.loop-number.number-index c.loop-number-test.false
