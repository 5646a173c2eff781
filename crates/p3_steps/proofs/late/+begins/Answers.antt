use Rattle.std.proofs.Common.{◌≡◌, ◌∙◌, ◌<◌, ◌≤◌, ◌++◌, true, Bool, length, take, sym, ap, subst}
use Rattle.std.proofs.Math.Seq.{take-append_seam}
use Rattle.std.proofs.lemmas.Bool.{false≢true}
use Rattle.p3_numbers.specs.Choices.{choice, choice_count}
use Rattle.p3_numbers.specs.Slots.{Slots, bound}
use Rattle.p3_expansion.proofs.ChoiceLemmas.{length-bound, bound-at}
use Rattle.p3_steps.specs.Possible.{may_begin}
use Rattle.p3_steps.proofs.EachLemmas.{each-decided, each-over, each-passed}
use Rattle.p3_steps.proofs.late.+begins.Goals as goal

pub goal_bodies_may-loop-choice-preserved : goal.goal_bodies_may-loop-choice-preserved
goal_bodies_may-loop-choice-preserved t c =
    let N = c.args.numbers.now in
    let slots = c.args.slots.now in
    let ranges = c.args.ranges.now in
    let k = c.loop-choice.choice in
    let test : Slots → Bool = λ inner. may_begin N c.args.statics.now inner c.args.body.now in
    let within : k < choice_count N ranges = subst (λ n. k < n) c.in_ok-count.ensures c.loop-choice-test.true in
    let inside : k < length (bound N slots ranges) = subst (λ n. k < n) (sym (length-bound N slots ranges)) within in
    let placed : c.place_inner.new.slots.items ≡ slots ++ choice N ranges k = c.in_ok-place_inner.ensures ∙ ap (λ front. front ++ choice N ranges k) c.loop-choice.invariant.outer in
    record {
      outer = ap (take (length slots)) placed ∙ take-append_seam slots (choice N ranges k);
      left =
          sym (each-passed test (bound N slots ranges) k c.as_slice.result.now inside (bound-at N slots ranges c.as_slice.result.now k within (c.as_slice.ensures.value ∙ placed)) true (sym c.in_ok-goal_may.ensures ∙ c.if-not-branch.false))
          ∙ c.loop-choice.invariant.left;
    }

pub goal_bodies_may-returns-then-not-branch : goal.goal_bodies_may-returns-then-not-branch
goal_bodies_may-returns-then-not-branch t c =
    let N = c.args.numbers.now in
    let slots = c.args.slots.now in
    let ranges = c.args.ranges.now in
    let k = c.loop-choice.choice in
    let test : Slots → Bool = λ inner. may_begin N c.args.statics.now inner c.args.body.now in
    let within : k < choice_count N ranges = subst (λ n. k < n) c.in_ok-count.ensures c.loop-choice-test.true in
    let inside : k < length (bound N slots ranges) = subst (λ n. k < n) (sym (length-bound N slots ranges)) within in
    let placed : c.place_inner.new.slots.items ≡ slots ++ choice N ranges k = c.in_ok-place_inner.ensures ∙ ap (λ front. front ++ choice N ranges k) c.loop-choice.invariant.outer in
    sym (each-decided test (bound N slots ranges) k c.as_slice.result.now inside (bound-at N slots ranges c.as_slice.result.now k within (c.as_slice.ensures.value ∙ placed)) true
    (λ same. false≢true (sym c.if-not-branch.true ∙ c.in_ok-goal_may.ensures ∙ same)))
    ∙ c.loop-choice.invariant.left

pub goal_bodies_may-returns : goal.goal_bodies_may-returns
goal_bodies_may-returns t c =
    let N = c.args.numbers.now in
    let slots = c.args.slots.now in
    let ranges = c.args.ranges.now in
    sym (each-over (λ inner. may_begin N c.args.statics.now inner c.args.body.now) (bound N slots ranges) c.loop-choice.choice
    (subst (λ n. n ≤ c.loop-choice.choice) (c.in_ok-count.ensures ∙ sym (length-bound N slots ranges)) c.loop-choice-test.false) true)
    ∙ c.loop-choice.invariant.left
