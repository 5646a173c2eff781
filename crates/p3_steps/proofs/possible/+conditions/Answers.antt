use Rattle.std.proofs.Common.{◌≡◌, ◌∙◌, ◌<◌, ◌≤◌, ◌++◌, true, Bool, length, take, sym, ap, subst}
use Rattle.std.proofs.Math.Seq.{take-append_seam}
use Rattle.p3_numbers.specs.Choices.{choice, choice_count}
use Rattle.p3_numbers.specs.Slots.{Slots, bound}
use Rattle.p3_expansion.proofs.ChoiceLemmas.{length-bound, bound-at}
use Rattle.p3_steps.specs.Possible.{condition_may}
use Rattle.p3_steps.proofs.EachLemmas.{differ-is, each-decided, each-over, each-passed, same-is}
use Rattle.p3_steps.proofs.possible.+conditions.Goals as goal

pub bodies_of-loop-choice-preserved : goal.bodies_of-loop-choice-preserved
bodies_of-loop-choice-preserved t c =
    let N = c.args.numbers.now in
    let slots = c.args.slots.now in
    let ranges = c.args.ranges.now in
    let k = c.loop-choice.choice in
    let test : Slots → Bool = λ inner. condition_may N c.args.statics.now true inner c.args.body.now c.args.wish in
    let within : k < choice_count N ranges = subst (λ n. k < n) c.in_ok-count.ensures c.loop-choice-test.true in
    let inside : k < length (bound N slots ranges) = subst (λ n. k < n) (sym (length-bound N slots ranges)) within in
    let placed : c.place_inner.new.slots.items ≡ slots ++ choice N ranges k = c.in_ok-place_inner.ensures ∙ ap (λ front. front ++ choice N ranges k) c.loop-choice.invariant.outer in
    record {
      outer = ap (take (length slots)) placed ∙ take-append_seam slots (choice N ranges k);
      left =
          sym (each-passed test (bound N slots ranges) k c.as_slice.result.now inside (bound-at N slots ranges c.as_slice.result.now k within (c.as_slice.ensures.value ∙ placed)) c.args.every
          (sym c.in_ok-condition_may.ensures ∙ same-is c.in_ok-condition_may.field-0 c.args.every c.if-branch-every.false))
          ∙ c.loop-choice.invariant.left;
    }

pub bodies_of-returns-then-branch-every : goal.bodies_of-returns-then-branch-every
bodies_of-returns-then-branch-every t c =
    let N = c.args.numbers.now in
    let slots = c.args.slots.now in
    let ranges = c.args.ranges.now in
    let k = c.loop-choice.choice in
    let test : Slots → Bool = λ inner. condition_may N c.args.statics.now true inner c.args.body.now c.args.wish in
    let within : k < choice_count N ranges = subst (λ n. k < n) c.in_ok-count.ensures c.loop-choice-test.true in
    let inside : k < length (bound N slots ranges) = subst (λ n. k < n) (sym (length-bound N slots ranges)) within in
    let placed : c.place_inner.new.slots.items ≡ slots ++ choice N ranges k = c.in_ok-place_inner.ensures ∙ ap (λ front. front ++ choice N ranges k) c.loop-choice.invariant.outer in
    sym (each-decided test (bound N slots ranges) k c.as_slice.result.now inside (bound-at N slots ranges c.as_slice.result.now k within (c.as_slice.ensures.value ∙ placed)) c.args.every
    (λ same. differ-is c.in_ok-condition_may.field-0 c.args.every c.if-branch-every.true (c.in_ok-condition_may.ensures ∙ same)))
    ∙ c.loop-choice.invariant.left

pub bodies_of-returns : goal.bodies_of-returns
bodies_of-returns t c =
    let N = c.args.numbers.now in
    let slots = c.args.slots.now in
    let ranges = c.args.ranges.now in
    sym (each-over (λ inner. condition_may N c.args.statics.now true inner c.args.body.now c.args.wish) (bound N slots ranges) c.loop-choice.choice
    (subst (λ n. n ≤ c.loop-choice.choice) (c.in_ok-count.ensures ∙ sym (length-bound N slots ranges)) c.loop-choice-test.false) c.args.every)
    ∙ c.loop-choice.invariant.left
