use Rattle.std.proofs.Common.{◌∙◌, ◌+◌, sym, ap, arith, get_or}
use Rattle.std.specs.Ordering.{nat_cmp, ordering_then}
use Rattle.p3_types.proofs.NameOrderLemmas.{left, word_ends, name_ends, bytes_first, differs_first, equal_first}
use Rattle.p3_types.proofs.name_order.compare_lowered.Goals as goal

pub returns-then-place-word : goal.returns-then-place-word
returns-then-place-word c = sym (c.loop-place.invariant ∙ word_ends c.args.name.now c.args.word.now c.loop-place.place c.loop-place-test.true c.if-place-word.true)

pub returns-then-is_ne : goal.returns-then-is_ne
returns-then-is_ne c =
    let name = c.args.name.now in
    let word = c.args.word.now in
    let place = c.loop-place.place in
    let compared = c.cmp-order.ensures ∙ ap (nat_cmp (get_or name place 0)) c.to_ascii_lowercase.ensures.value in
    sym (c.loop-place.invariant ∙ bytes_first name word place c.loop-place-test.true c.if-place-word.false
    ∙ ap (λ r. ordering_then r (left name word place (place + 1))) (sym compared) ∙ differs_first c.cmp-order.result _ (sym c.is_ne.ensures ∙ c.if-is_ne.true))

pub loop-place-preserved : goal.loop-place-preserved
loop-place-preserved c =
    let name = c.args.name.now in
    let word = c.args.word.now in
    let place = c.loop-place.place in
    let compared = c.cmp-order.ensures ∙ ap (nat_cmp (get_or name place 0)) c.to_ascii_lowercase.ensures.value in
    c.loop-place.invariant ∙ bytes_first name word place c.loop-place-test.true c.if-place-word.false
    ∙ ap (λ r. ordering_then r (left name word place (place + 1))) (sym compared) ∙ equal_first c.cmp-order.result _ (sym c.is_ne.ensures ∙ c.if-is_ne.false)

pub returns-then-name-word : goal.returns-then-name-word
returns-then-name-word c = sym (c.loop-place.invariant ∙ name_ends c.args.name.now c.args.word.now c.loop-place.place c.loop-place-test.false (omega arith))
