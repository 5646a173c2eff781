use Rattle.std.proofs.Common.{◌∙◌, ◌++◌, ◌∷◌, [], ◌+◌, ◌/◌, ◌%◌, length, drop, sym, ap, append_assoc}
use Rattle.std.proofs.lemmas.List.{append-nil}
use Rattle.p3_numbers.specs.Choices.{choice}
use Rattle.p3_expansion.proofs.ChoiceLemmas.{step-at, choice-end}
use Rattle.p3_expansion.proofs.choices.push_choice.Goals as goal

pub nonzero_div-left : goal.nonzero_div-left
nonzero_div-left c =
    (step-at c.args.numbers.now c.args.ranges.now c.loop-range.range-index c.loop-range.left c.loop-range.rest 0 c.objects_of-objects.result.now c.objects_of-objects.ensures c.loop-range-test.true c.loop-range.invariant.left c.loop-range.invariant.within).some

pub nonzero_div-rest : goal.nonzero_div-rest
nonzero_div-rest c =
    (step-at c.args.numbers.now c.args.ranges.now c.loop-range.range-index c.loop-range.left c.loop-range.rest 0 c.objects_of-objects.result.now c.objects_of-objects.ensures c.loop-range-test.true c.loop-range.invariant.left c.loop-range.invariant.within).stretch

pub nonzero_rem-rest : goal.nonzero_rem-rest
nonzero_rem-rest c =
    (step-at c.args.numbers.now c.args.ranges.now c.loop-range.range-index c.loop-range.left c.loop-range.rest 0 c.objects_of-objects.result.now c.objects_of-objects.ensures c.loop-range-test.true c.loop-range.invariant.left c.loop-range.invariant.within).stretch

pub loop-range-preserved : goal.loop-range-preserved
loop-range-preserved c =
    let objects = c.objects_of-objects.result.now in
    let left = c.loop-range.left / length objects in
    let step = step-at c.args.numbers.now c.args.ranges.now c.loop-range.range-index c.loop-range.left c.loop-range.rest 0 objects c.objects_of-objects.ensures c.loop-range-test.true c.loop-range.invariant.left c.loop-range.invariant.within in
    let behind = choice c.args.numbers.now (drop (c.loop-range.range-index + 1) c.args.ranges.now) (c.loop-range.rest % left) in
    record {
      left = step.behind;
      within = step.within;
      choice =
          ap (λ items. items ++ behind) c.in_ok-push.ensures.items
          ∙ append_assoc c.loop-range.slots.items (c.object_at.result ∷ []) behind
          ∙ ap (λ object. c.loop-range.slots.items ++ object ∷ behind) c.object_at.ensures
          ∙ ap (λ rest. c.loop-range.slots.items ++ rest) (sym step.choice) ∙ c.loop-range.invariant.choice;
    }

pub returns : goal.returns
returns c =
    sym (append-nil c.loop-range.slots.items)
    ∙ ap (λ rest. c.loop-range.slots.items ++ rest) (sym (choice-end c.args.numbers.now c.args.ranges.now c.loop-range.range-index c.loop-range.rest c.loop-range-test.false))
    ∙ c.loop-range.invariant.choice
