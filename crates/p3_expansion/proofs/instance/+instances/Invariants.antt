use Rattle.std.proofs.Common.{◌≡◌, length, take}
use Rattle.std.specs.Prelude.{flat_map}
use Rattle.p3_numbers.specs.Constraints.{soft_instances}
use Rattle.p3_numbers.specs.Slots.{bound}
use Rattle.p3_expansion.specs.Instances.{InstancesStand, instance_atoms}
use Rattle.p3_expansion.specs.Walks.{Pushes}
use Rattle.p3_expansion.proofs.instance.+instances.Given as goal

abbrev pub invariant-push_parts-loop-part : goal.invariant-push_parts-loop-part
invariant-push_parts-loop-part l =
    Pushes (InstancesStand l.numbers l.statics) (flat_map (λ part. flat_map (instance_atoms l.numbers) (soft_instances l.numbers part l.slots)) l.parts) l.fn.work l.work (flat_map (λ part. soft_instances l.numbers part l.slots) (take l.part-index l.parts)) l.fn.made l.made

abbrev pub invariant-push_bodies-loop-choice : goal.invariant-push_bodies-loop-choice
invariant-push_bodies-loop-choice l = record {
  outer : take (length l.slots) l.inner.items ≡ l.slots;
  pushes : Pushes (InstancesStand l.numbers l.statics) (flat_map (λ inner. flat_map (instance_atoms l.numbers) (soft_instances l.numbers l.body inner)) (bound l.numbers l.slots l.ranges)) l.fn.work l.work (flat_map (λ inner. soft_instances l.numbers l.body inner) (take l.choice (bound l.numbers l.slots l.ranges))) l.fn.made l.made;
}
