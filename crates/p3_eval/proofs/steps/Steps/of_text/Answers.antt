use Rattle.std.proofs.Common.{◌∙◌, List, ap, arith, subst, sym, ℕ}
use Rattle.p3_plans.specs.Steps.{Left, left}
use Rattle.p3_eval.specs.Judging.{Follows}
use Rattle.p3_eval.proofs.JudgeLemmas.{ends, ends_at, few_in_all, follows_first, follows_number, has_room, the_plan}
use Rattle.p3_eval.proofs.StepsLemmas.{lacks_of}
use Rattle.p3_eval.proofs.steps.Steps.of_text.Goals as goal

pub loop-slice-init : goal.loop-slice-init
loop-slice-init c = record {
  source = ap (λ r. r.source) c.new-reader.ensures.starts;
  offence = ap (λ r. (left r).offence) c.new-reader.ensures.starts;
  follows = λ free. subst (λ r. Follows c.args.task.now.task c.args.text.now c.new-numbers.result.items (left r)) (sym c.new-reader.ensures.starts)
      (follows_first c.args.task.now.task c.args.text.now free c.new-numbers.result.items c.new-numbers.ensures.items);
}

pub loop-slice-preserved : goal.loop-slice-preserved
loop-slice-preserved c =
    let T = c.args.task.now.task in
    let text = c.args.text.now in
    let numbers = c.loop-slice.numbers.items in
    let later = left c.next.new.self in
    record {
      source = c.in-Step.ensures.source ∙ c.loop-slice.invariant.source;
      offence = sym (ap (λ (l : Left). l.offence) c.in-Step.ensures.steps) ∙ c.loop-slice.invariant.offence;
      follows = λ free. subst (λ (more : List ℕ). Follows T text more later) (sym c.in_ok-push-in-Number.ensures)
          (follows_number T text free numbers (record { at = c.in-Step.slice.offset; text = c.in-Step.slice.text.now }) later
          (subst (Follows T text numbers) c.in-Step.ensures.steps (c.loop-slice.invariant.follows free)) c.in-Number.number c.in-Number.ensures);
    }

pub invariant_of-result : goal.invariant_of-result
invariant_of-result c =
    let T = c.args.task.now.task in
    let text = c.args.text.now in
    let numbers = c.loop-slice.numbers.items in
    let free = sym c.loop-slice.invariant.offence ∙ ap (λ (l : Left). l.offence) c.in-Step.ensures.steps ∙ sym c.offence.ensures ∙ c.in-None.is in
    let room = has_room T text free numbers (record { at = c.in-Step.slice.offset; text = c.in-Step.slice.text.now }) (left c.next.new.self)
    (subst (Follows T text numbers) c.in-Step.ensures.steps (c.loop-slice.invariant.follows free)) in
    record { few = omega (arith, room) }

pub returns-in-None : goal.returns-in-None
returns-in-None c =
    let T = c.args.task.now.task in
    let text = c.args.text.now in
    let numbers = c.loop-slice.numbers.items in
    let free = sym c.loop-slice.invariant.offence ∙ ap (λ (l : Left). l.offence) c.in-Step.ensures.steps ∙ sym c.offence.ensures ∙ c.in-None.is in
    let are = ends_at T text free numbers (record { at = c.in-Step.slice.offset; text = c.in-Step.slice.text.now }) (left c.next.new.self)
    (subst (Follows T text numbers) c.in-Step.ensures.steps (c.loop-slice.invariant.follows free)) c.find_text.result
    (λ step spelled. lacks_of T step c.find_text.result c.in_default.not-Number (c.find_text.ensures step spelled)) in
    let some = the_plan T text free in
    record { are = are; some = record { plan = some.plan; are = are some.plan some.spelled }; free = free; refused = tt }

pub invariant_of-result-in-End : goal.invariant_of-result-in-End
invariant_of-result-in-End c =
    let T = c.args.task.now.task in
    let text = c.args.text.now in
    let free = sym c.loop-slice.invariant.offence ∙ ap (λ (l : Left). l.offence) c.in-End.ensures.steps in
    record { few = few_in_all T text free c.loop-slice.numbers.items (left c.loop-slice.reader) (ap (λ (l : Left). l.steps) c.in-End.ensures.steps) (c.loop-slice.invariant.follows free) }

pub returns-in-End-clause-are : goal.returns-in-End-clause-are
returns-in-End-clause-are c =
    let free = sym c.loop-slice.invariant.offence ∙ ap (λ (l : Left). l.offence) c.in-End.ensures.steps in
    ends c.args.task.now.task c.args.text.now free c.loop-slice.numbers.items (left c.loop-slice.reader) (ap (λ (l : Left). l.steps) c.in-End.ensures.steps) (c.loop-slice.invariant.follows free)

pub returns-in-End-clause-some : goal.returns-in-End-clause-some
returns-in-End-clause-some c =
    let T = c.args.task.now.task in
    let text = c.args.text.now in
    let free = sym c.loop-slice.invariant.offence ∙ ap (λ (l : Left). l.offence) c.in-End.ensures.steps in
    let some = the_plan T text free in
    record {
      plan = some.plan;
      are = ends T text free c.loop-slice.numbers.items (left c.loop-slice.reader) (ap (λ (l : Left). l.steps) c.in-End.ensures.steps) (c.loop-slice.invariant.follows free) some.plan some.spelled;
    }
