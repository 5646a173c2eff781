use Rattle.std.proofs.Common.{◌∙◌, ◌<◌, [], All, take, sym, ap, subst, arith}
use Rattle.std.specs.Prelude.{flat_map}
use Rattle.p3_numbers.specs.Choices.{choice, choice_count as count_of}
use Rattle.p3_steps.specs.Candidates.{open_choices, taken_behind}
use Rattle.p3_steps.specs.Possible.{may_yet_begin}
use Rattle.p3_steps.proofs.CandidateLemmas.{candidates-more, count-between, count-none, few-behind, passing-below, whole-behind}
use Rattle.p3_steps.proofs.choices.open_choices.Goals as goal

pub loop-place-init : goal.loop-place-init
loop-place-init c =
    let same = c.in_ok-test.ensures in
    record {
      within = omega arith;
      count = count-none c.args.numbers.now;
      kept = c.in_ok-kept.ensures ∙ (λ i. open_choices (same.numbers i) (same.statics i) [] (same.goal i));
    }

pub widened-requires-clause-count : goal.widened-requires-clause-count
widened-requires-clause-count c =
    let last = c.next_wide-last in
    c.loop-place.invariant.count
    ∙ sym (count-between c.args.numbers.now c.args.ranges.now c.args.statics.now c.args.goal.now c.loop-place.place last.result last.ensures.on last.ensures.within last.ensures.ones)
    ∙ ap (λ N. count_of N (take last.result c.args.ranges.now)) (sym c.in_ok-test.ensures.numbers)

pub widened-requires-clause-few : goal.widened-requires-clause-few
widened-requires-clause-few c =
    few-behind c.args.numbers.now c.args.ranges.now c.args.statics.now c.args.goal.now c.loop-place.place c.next_wide-last.result c.next_wide-last.ensures.on c.next_wide-last.ensures.within
    c.next_wide-last.ensures.ones c.objects_of-objects.result.now c.loop-place.count c.objects_of-objects.ensures c.loop-place.invariant.count
    (let counted = c.in_ok-choice_count.ensures in let nonzero = c.if-branch-eq0.false in omega (arith, counted, nonzero)) c.requires

pub widened-requires-clause-within : goal.widened-requires-clause-within
widened-requires-clause-within c =
    let N = c.args.numbers.now in
    let ranges = c.args.ranges.now in
    let invariant = c.loop-place.invariant in
    subst (λ kept. All (λ number. number < c.loop-place.count) kept) (sym (c.as_slice.ensures.value ∙ invariant.kept))
    (subst (λ count. All (λ number. number < count) (open_choices N c.args.statics.now (take c.loop-place.place ranges) c.args.goal.now)) (sym invariant.count)
    (passing-below (λ number. may_yet_begin N c.args.statics.now (choice N (take c.loop-place.place ranges) number) c.args.goal.now) (count_of N (take c.loop-place.place ranges))))

pub overflow_mul-count : goal.overflow_mul-count
overflow_mul-count c =
    let few = few-behind c.args.numbers.now c.args.ranges.now c.args.statics.now c.args.goal.now c.loop-place.place c.next_wide-last.result c.next_wide-last.ensures.on c.next_wide-last.ensures.within
    c.next_wide-last.ensures.ones c.objects_of-objects.result.now c.loop-place.count c.objects_of-objects.ensures c.loop-place.invariant.count
    (let counted = c.in_ok-choice_count.ensures in let nonzero = c.if-branch-eq0.false in omega (arith, counted, nonzero)) c.requires
    in
    omega (arith, few)

pub loop-place-preserved : goal.loop-place-preserved
loop-place-preserved c =
    let N = c.args.numbers.now in
    let S = c.args.statics.now in
    let pre = c.args.goal.now in
    let ranges = c.args.ranges.now in
    let place = c.loop-place.place in
    let last = c.next_wide-last.result in
    let told = c.next_wide-last.ensures in
    let same = c.in_ok-test.ensures in
    let low = told.within in
    record {
      within = omega (arith, low);
      count = whole-behind N ranges S pre place last told.on told.within told.ones c.objects_of-objects.result.now c.loop-place.count c.objects_of-objects.ensures c.loop-place.invariant.count;
      kept =
          c.in_ok-kept-2.ensures
          ∙ (λ i. flat_map (taken_behind (same.numbers i) (same.statics i) (same.goal i) (take last ranges) (c.objects_of-objects.ensures i)) ((c.as_slice.ensures.value ∙ c.loop-place.invariant.kept) i))
          ∙ candidates-more N ranges S pre place last told.on told.within told.ones;
    }
