use Rattle.std.proofs.Common.{◌∙◌, ◌+◌, ◌/◌, ◌%◌, ◌++◌, ◌∷◌, [], ap, sym, drop, length, append_assoc}
use Rattle.std.proofs.lemmas.List.{append-nil}
use Rattle.p3_numbers.specs.Choices.{choice}
use Rattle.p3_types.proofs.StepLemmas.{next_argument, no_argument}
use Rattle.p3_types.proofs.steps.chosen.Goals as goal

pub nonzero_div-block : goal.nonzero_div-block
nonzero_div-block c =
    let next = next_argument c.args.numbers.now c.args.ranges.now c.objects_of-objects.result.now c.loop-range.range-index c.loop-range.rest c.loop-range.block c.loop-range-test.true c.objects_of-objects.ensures c.loop-range.invariant.block c.loop-range.invariant.within in
    next.some

pub first_object-object-requires-clause-some : goal.first_object-object-requires-clause-some
first_object-object-requires-clause-some c =
    let next = next_argument c.args.numbers.now c.args.ranges.now c.objects_of-objects.result.now c.loop-range.range-index c.loop-range.rest c.loop-range.block c.loop-range-test.true c.objects_of-objects.ensures c.loop-range.invariant.block c.loop-range.invariant.within in
    next.stretch

pub first_object-object-requires-clause-within : goal.first_object-object-requires-clause-within
first_object-object-requires-clause-within c =
    let next = next_argument c.args.numbers.now c.args.ranges.now c.objects_of-objects.result.now c.loop-range.range-index c.loop-range.rest c.loop-range.block c.loop-range-test.true c.objects_of-objects.ensures c.loop-range.invariant.block c.loop-range.invariant.within in
    next.digit

pub nonzero_rem-rest : goal.nonzero_rem-rest
nonzero_rem-rest c =
    let next = next_argument c.args.numbers.now c.args.ranges.now c.objects_of-objects.result.now c.loop-range.range-index c.loop-range.rest c.loop-range.block c.loop-range-test.true c.objects_of-objects.ensures c.loop-range.invariant.block c.loop-range.invariant.within in
    next.stretch

pub loop-range-preserved : goal.loop-range-preserved
loop-range-preserved c =
    let N = c.args.numbers.now in
    let objects = c.objects_of-objects.result.now in
    let rest = c.loop-range.rest in
    let inner = c.loop-range.block / length objects in
    let object = c.first_object-object.result in
    let others = choice N (drop (c.loop-range.range-index + 1) c.args.ranges.now) (rest % inner) in
    let next = next_argument N c.args.ranges.now objects c.loop-range.range-index rest c.loop-range.block c.loop-range-test.true c.objects_of-objects.ensures c.loop-range.invariant.block c.loop-range.invariant.within in
    record {
      block = next.inner;
      within = next.within;
      chosen = c.loop-range.invariant.chosen ∙ ap (λ left. c.loop-range.chosen.items ++ left) next.choice
          ∙ ap (λ first. c.loop-range.chosen.items ++ (first ∷ others)) (sym c.first_object-object.ensures)
          ∙ sym (append_assoc c.loop-range.chosen.items (object ∷ []) others)
          ∙ ap (λ all. all ++ others) (sym c.in_ok-push.ensures.items);
    }

pub returns : goal.returns
returns c =
    sym (c.loop-range.invariant.chosen ∙ ap (λ left. c.loop-range.chosen.items ++ left) (no_argument c.args.numbers.now c.args.ranges.now c.loop-range.range-index c.loop-range.rest c.loop-range-test.false) ∙ append-nil c.loop-range.chosen.items)
