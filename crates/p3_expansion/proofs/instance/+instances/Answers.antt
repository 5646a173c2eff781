use Rattle.std.proofs.Common.{◌≡◌, ◌∙◌, ◌<◌, ◌≤◌, ◌∷◌, [], ◌++◌, length, take, sym, ap, subst}
use Rattle.std.proofs.Math.Seq.{take-append_seam, take-length}
use Rattle.std.specs.Prelude.{flat_map}
use Rattle.p3_numbers.specs.Choices.{choice, choice_count}
use Rattle.p3_numbers.specs.Constraints.{soft_instances}
use Rattle.p3_numbers.specs.Slots.{bound}
use Rattle.p3_numbers.specs.declared.constraint.NumberedConstraint.TheVariants.{Both, Each}
use Rattle.p3_numbers.proofs.ConstraintLemmas.{soft_instances-Soft}
use Rattle.p3_expansion.specs.Instances.{InstancesStand, PushesInstances, instance_atoms}
use Rattle.p3_expansion.proofs.ChoiceLemmas.{length-bound, bound-at}
use Rattle.p3_expansion.proofs.InstanceLemmas.{instances-Single, instances-of-parts, instances-of-bodies, instances-of-one}
use Rattle.p3_expansion.proofs.WalkLemmas.{pushes-none, pushes-part, pushes-all}
use Rattle.p3_expansion.proofs.instance.+instances.Goals as goal

pub push_instances-returns-in_ok-push_parts-in-Both : goal.push_instances-returns-in_ok-push_parts-in-Both
push_instances-returns-in_ok-push_parts-in-Both t c =
    let N = c.args.numbers.now in
    let S = c.args.statics.now in
    let slots = c.args.slots.now in
    subst (λ tree. PushesInstances N S (soft_instances N tree slots) c.args.work.now c.push_parts.new.work c.args.made.now c.push_parts.new.made) (sym c.in-Both.is)
    (subst (λ parts. PushesInstances N S (soft_instances N (Both parts) slots) c.args.work.now c.push_parts.new.work c.args.made.now c.push_parts.new.made) c.items.ensures
    (instances-of-parts N S slots c.args.work.now c.push_parts.new.work c.args.made.now c.push_parts.new.made c.items.result.now c.in_ok-push_parts-in-Both.ensures))

pub push_instances-returns-in_ok-push_bodies-in-Each : goal.push_instances-returns-in_ok-push_bodies-in-Each
push_instances-returns-in_ok-push_bodies-in-Each t c =
    let N = c.args.numbers.now in
    let S = c.args.statics.now in
    let slots = c.args.slots.now in
    subst (λ tree. PushesInstances N S (soft_instances N tree slots) c.args.work.now c.push_bodies.new.work c.args.made.now c.push_bodies.new.made) ((λ i. Each (c.items-ranges.ensures i) (c.get-body.ensures i)) ∙ sym c.in-Each.is)
    (instances-of-bodies N S slots c.args.work.now c.push_bodies.new.work c.args.made.now c.push_bodies.new.made c.items-ranges.result.now c.get-body.result.now c.in_ok-push_bodies-in-Each.ensures)

pub push_instances-returns-in-Single : goal.push_instances-returns-in-Single
push_instances-returns-in-Single t c =
    let N = c.args.numbers.now in
    let slots = c.args.slots.now in
    instances-of-one N c.args.statics.now slots c.args.work.now c.args.work.now c.args.made.now c.args.made.now c.args.constraint.now []
    (ap (λ tree. soft_instances N tree slots) c.in-Single.is ∙ instances-Single N slots c.in-Single.field-0) (pushes-none (InstancesStand N c.args.statics.now) [] c.args.work.now c.args.made.now)

pub push_instances-returns-in_ok-push_instance-in-Soft : goal.push_instances-returns-in_ok-push_instance-in-Soft
push_instances-returns-in_ok-push_instance-in-Soft t c =
    let N = c.args.numbers.now in
    let slots = c.args.slots.now in
    let at = c.in-Soft.at in
    let name = c.in-Soft.name in
    instances-of-one N c.args.statics.now slots c.args.work.now c.push_instance.new.work c.args.made.now c.push_instance.new.made c.args.constraint.now (record { at = at; name = name; body = c.get.result.now; slots = slots } ∷ [])
    (ap (λ tree. soft_instances N tree slots) c.in-Soft.is ∙ soft_instances-Soft N slots at name c.in-Soft.body ∙ (λ i. record { at = at; name = name; body = sym c.get.ensures i; slots = slots } ∷ []))
    (c.in_ok-push_instance-in-Soft.ensures at)

pub push_parts-loop-part-init : goal.push_parts-loop-part-init
push_parts-loop-part-init t c =
    pushes-none (InstancesStand c.args.numbers.now c.args.statics.now) (flat_map (λ part. flat_map (instance_atoms c.args.numbers.now) (soft_instances c.args.numbers.now part c.args.slots.now)) c.args.parts.now) c.args.work.now c.args.made.now

pub push_parts-loop-part-preserved : goal.push_parts-loop-part-preserved
push_parts-loop-part-preserved t c =
    let N = c.args.numbers.now in
    let slots = c.args.slots.now in
    pushes-part (InstancesStand N c.args.statics.now) (λ part. soft_instances N part slots) (λ part. flat_map (instance_atoms N) (soft_instances N part slots)) c.args.parts.now c.args.work.now c.loop-part.work c.push_instances.new.work c.args.made.now c.loop-part.made c.push_instances.new.made c.loop-part.part-index c.part-item.result
    c.loop-part-test.true c.part-item.is c.loop-part.invariant c.in_ok-push_instances.ensures

pub push_bodies-loop-choice-init : goal.push_bodies-loop-choice-init
push_bodies-loop-choice-init t c = record {
  outer = ap (take (length c.args.slots.now)) c.in_ok-inner.ensures.items ∙ take-length c.args.slots.now;
  pushes =
      pushes-none (InstancesStand c.args.numbers.now c.args.statics.now) (flat_map (λ inner. flat_map (instance_atoms c.args.numbers.now) (soft_instances c.args.numbers.now c.args.body.now inner)) (bound c.args.numbers.now c.args.slots.now c.args.ranges.now)) c.args.work.now c.args.made.now;
}

pub push_bodies-loop-choice-preserved : goal.push_bodies-loop-choice-preserved
push_bodies-loop-choice-preserved t c =
    let N = c.args.numbers.now in
    let slots = c.args.slots.now in
    let ranges = c.args.ranges.now in
    let body = c.args.body.now in
    let k = c.loop-choice.choice in
    let within : k < choice_count N ranges = subst (λ n. k < n) c.in_ok-count.ensures c.loop-choice-test.true in
    let inside : k < length (bound N slots ranges) = subst (λ n. k < n) (sym (length-bound N slots ranges)) within in
    let placed : c.place_choice.new.slots.items ≡ slots ++ choice N ranges k = c.in_ok-place_choice.ensures ∙ ap (λ front. front ++ choice N ranges k) c.loop-choice.invariant.outer in
    record {
      outer = ap (take (length slots)) placed ∙ take-append_seam slots (choice N ranges k);
      pushes =
          pushes-part (InstancesStand N c.args.statics.now) (λ inner. soft_instances N body inner) (λ inner. flat_map (instance_atoms N) (soft_instances N body inner)) (bound N slots ranges) c.args.work.now c.loop-choice.work c.push_instances.new.work c.args.made.now c.loop-choice.made c.push_instances.new.made k c.as_slice.result.now
          inside (bound-at N slots ranges c.as_slice.result.now k within (c.as_slice.ensures.value ∙ placed)) c.loop-choice.invariant.pushes c.in_ok-push_instances.ensures;
    }

pub push_bodies-returns : goal.push_bodies-returns
push_bodies-returns t c =
    let N = c.args.numbers.now in
    let slots = c.args.slots.now in
    let ranges = c.args.ranges.now in
    let body = c.args.body.now in
    pushes-all (InstancesStand N c.args.statics.now) (λ inner. soft_instances N body inner) (λ inner. flat_map (instance_atoms N) (soft_instances N body inner)) (bound N slots ranges) c.args.work.now c.loop-choice.work c.args.made.now c.loop-choice.made c.loop-choice.choice
    (subst (λ n. n ≤ c.loop-choice.choice) (c.in_ok-count.ensures ∙ sym (length-bound N slots ranges)) c.loop-choice-test.false) c.loop-choice.invariant.pushes
