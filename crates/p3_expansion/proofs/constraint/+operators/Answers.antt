use Rattle.std.proofs.Common.{◌≡◌, ◌∙◌, ◌<◌, ◌≤◌, ◌∷◌, [], ◌++◌, length, take, sym, ap, subst}
use Rattle.std.proofs.Math.Seq.{take-append_seam, take-length}
use Rattle.std.specs.Prelude.{flat_map}
use Rattle.p3_numbers.specs.Choices.{choice, choice_count}
use Rattle.p3_numbers.specs.Slots.{bound}
use Rattle.p3_numbers.specs.declared.constraint.NumberedConstraint.TheVariants.{Both, Each}
use Rattle.p3_expansion.specs.Operators.{OperatorsStand, PushesOperators, operator_atoms, operators_of}
use Rattle.p3_expansion.proofs.ChoiceLemmas.{length-bound, bound-at}
use Rattle.p3_expansion.proofs.OperatorLemmas.{operators-Single, operators-Soft-all, operators-Soft-hard, operators-of-parts, operators-of-bodies, operators-of-one}
use Rattle.p3_expansion.proofs.WalkLemmas.{pushes-none, pushes-part, pushes-all}
use Rattle.p3_expansion.proofs.constraint.+operators.Goals as goal

pub push_operators-returns-in_ok-push_parts-in-Both : goal.push_operators-returns-in_ok-push_parts-in-Both
push_operators-returns-in_ok-push_parts-in-Both t c =
    let N = c.args.numbers.now in
    let S = c.args.statics.now in
    let slots = c.args.slots.now in
    subst (λ tree. PushesOperators N S (operators_of N c.args.all slots tree) c.args.work.now c.push_parts.new.work c.args.made.now c.push_parts.new.made) (sym c.in-Both.is)
    (subst (λ parts. PushesOperators N S (operators_of N c.args.all slots (Both parts)) c.args.work.now c.push_parts.new.work c.args.made.now c.push_parts.new.made) c.items.ensures
    (operators-of-parts N S c.args.all slots c.args.work.now c.push_parts.new.work c.args.made.now c.push_parts.new.made c.items.result.now c.in_ok-push_parts-in-Both.ensures))

pub push_operators-returns-in_ok-push_bodies-in-Each : goal.push_operators-returns-in_ok-push_bodies-in-Each
push_operators-returns-in_ok-push_bodies-in-Each t c =
    let N = c.args.numbers.now in
    let S = c.args.statics.now in
    let slots = c.args.slots.now in
    let all = c.args.all in
    subst (λ tree. PushesOperators N S (operators_of N all slots tree) c.args.work.now c.push_bodies.new.work c.args.made.now c.push_bodies.new.made) ((λ i. Each (c.items-ranges.ensures i) (c.get-body.ensures i)) ∙ sym c.in-Each.is)
    (operators-of-bodies N S all slots c.args.work.now c.push_bodies.new.work c.args.made.now c.push_bodies.new.made c.items-ranges.result.now c.get-body.result.now c.in_ok-push_bodies-in-Each.ensures)

pub push_operators-returns-in_ok-push_operator-in-Single : goal.push_operators-returns-in_ok-push_operator-in-Single
push_operators-returns-in_ok-push_operator-in-Single t c =
    let N = c.args.numbers.now in
    let slots = c.args.slots.now in
    operators-of-one N c.args.statics.now c.args.all slots c.args.work.now c.push_operator.new.work c.args.made.now c.push_operator.new.made c.args.constraint.now (record { modal = c.in-Single.modal; slots = slots } ∷ [])
    (ap (operators_of N c.args.all slots) c.in-Single.is ∙ operators-Single N slots c.args.all c.in-Single.modal) c.in_ok-push_operator-in-Single.ensures

pub push_operators-returns-then-not-all : goal.push_operators-returns-then-not-all
push_operators-returns-then-not-all t c =
    let N = c.args.numbers.now in
    let S = c.args.statics.now in
    let slots = c.args.slots.now in
    operators-of-one N S c.args.all slots c.args.work.now c.args.work.now c.args.made.now c.args.made.now c.args.constraint.now []
    (ap (operators_of N c.args.all slots) c.in-Soft.is ∙ operators-Soft-hard N slots c.args.all c.in-Soft.at c.in-Soft.name c.in-Soft.body c.if-not-all.true) (pushes-none (OperatorsStand N S) [] c.args.work.now c.args.made.now)

pub push_operators-returns-in_ok-push_operators-in-Soft : goal.push_operators-returns-in_ok-push_operators-in-Soft
push_operators-returns-in_ok-push_operators-in-Soft t c =
    let N = c.args.numbers.now in
    let S = c.args.statics.now in
    let slots = c.args.slots.now in
    let all = c.args.all in
    operators-of-one N S all slots c.args.work.now c.push_operators.new.work c.args.made.now c.push_operators.new.made c.args.constraint.now (operators_of N all slots c.get.result.now)
    (ap (operators_of N all slots) c.in-Soft.is ∙ operators-Soft-all N slots all c.in-Soft.at c.in-Soft.name c.in-Soft.body c.if-not-all.false ∙ ap (operators_of N all slots) (sym c.get.ensures)) c.in_ok-push_operators-in-Soft.ensures

pub push_parts-loop-part-init : goal.push_parts-loop-part-init
push_parts-loop-part-init t c =
    pushes-none (OperatorsStand c.args.numbers.now c.args.statics.now) (flat_map (λ part. flat_map (operator_atoms c.args.numbers.now) (operators_of c.args.numbers.now c.args.all c.args.slots.now part)) c.args.parts.now) c.args.work.now c.args.made.now

pub push_parts-loop-part-preserved : goal.push_parts-loop-part-preserved
push_parts-loop-part-preserved t c =
    let N = c.args.numbers.now in
    let slots = c.args.slots.now in
    let all = c.args.all in
    pushes-part (OperatorsStand N c.args.statics.now) (operators_of N all slots) (λ part. flat_map (operator_atoms N) (operators_of N all slots part)) c.args.parts.now c.args.work.now c.loop-part.work c.push_operators.new.work c.args.made.now c.loop-part.made c.push_operators.new.made c.loop-part.part-index c.part-item.result
    c.loop-part-test.true c.part-item.is c.loop-part.invariant c.in_ok-push_operators.ensures

pub push_bodies-loop-choice-init : goal.push_bodies-loop-choice-init
push_bodies-loop-choice-init t c = record {
  outer = ap (take (length c.args.slots.now)) c.in_ok-inner.ensures.items ∙ take-length c.args.slots.now;
  pushes =
      pushes-none (OperatorsStand c.args.numbers.now c.args.statics.now) (flat_map (λ inner. flat_map (operator_atoms c.args.numbers.now) (operators_of c.args.numbers.now c.args.all inner c.args.body.now)) (bound c.args.numbers.now c.args.slots.now c.args.ranges.now)) c.args.work.now c.args.made.now;
}

pub push_bodies-loop-choice-preserved : goal.push_bodies-loop-choice-preserved
push_bodies-loop-choice-preserved t c =
    let N = c.args.numbers.now in
    let slots = c.args.slots.now in
    let ranges = c.args.ranges.now in
    let all = c.args.all in
    let body = c.args.body.now in
    let k = c.loop-choice.choice in
    let within : k < choice_count N ranges = subst (λ n. k < n) c.in_ok-count.ensures c.loop-choice-test.true in
    let inside : k < length (bound N slots ranges) = subst (λ n. k < n) (sym (length-bound N slots ranges)) within in
    let placed : c.place_choice.new.slots.items ≡ slots ++ choice N ranges k = c.in_ok-place_choice.ensures ∙ ap (λ front. front ++ choice N ranges k) c.loop-choice.invariant.outer in
    record {
      outer = ap (take (length slots)) placed ∙ take-append_seam slots (choice N ranges k);
      pushes =
          pushes-part (OperatorsStand N c.args.statics.now) (λ inner. operators_of N all inner body) (λ inner. flat_map (operator_atoms N) (operators_of N all inner body)) (bound N slots ranges) c.args.work.now c.loop-choice.work c.push_operators.new.work c.args.made.now c.loop-choice.made c.push_operators.new.made k c.as_slice.result.now
          inside (bound-at N slots ranges c.as_slice.result.now k within (c.as_slice.ensures.value ∙ placed)) c.loop-choice.invariant.pushes c.in_ok-push_operators.ensures;
    }

pub push_bodies-returns : goal.push_bodies-returns
push_bodies-returns t c =
    let N = c.args.numbers.now in
    let slots = c.args.slots.now in
    let ranges = c.args.ranges.now in
    let all = c.args.all in
    let body = c.args.body.now in
    pushes-all (OperatorsStand N c.args.statics.now) (λ inner. operators_of N all inner body) (λ inner. flat_map (operator_atoms N) (operators_of N all inner body)) (bound N slots ranges) c.args.work.now c.loop-choice.work c.args.made.now c.loop-choice.made c.loop-choice.choice
    (subst (λ n. n ≤ c.loop-choice.choice) (c.in_ok-count.ensures ∙ sym (length-bound N slots ranges)) c.loop-choice-test.false) c.loop-choice.invariant.pushes
