use Rattle.std.proofs.Common.{◌≡◌, length, take}
use Rattle.std.specs.Prelude.{flat_map}
use Rattle.p3_numbers.specs.Slots.{bound}
use Rattle.p3_expansion.specs.Operators.{OperatorsStand, operator_atoms, operators_of}
use Rattle.p3_expansion.specs.Walks.{Pushes}
use Rattle.p3_expansion.proofs.constraint.+operators.Given as goal

abbrev pub invariant-push_parts-loop-part : goal.invariant-push_parts-loop-part
invariant-push_parts-loop-part l =
    Pushes (OperatorsStand l.numbers l.statics) (flat_map (λ part. flat_map (operator_atoms l.numbers) (operators_of l.numbers l.all l.slots part)) l.parts) l.fn.work l.work (flat_map (operators_of l.numbers l.all l.slots) (take l.part-index l.parts)) l.fn.made l.made

abbrev pub invariant-push_bodies-loop-choice : goal.invariant-push_bodies-loop-choice
invariant-push_bodies-loop-choice l = record {
  outer : take (length l.slots) l.inner.items ≡ l.slots;
  pushes : Pushes (OperatorsStand l.numbers l.statics) (flat_map (λ inner. flat_map (operator_atoms l.numbers) (operators_of l.numbers l.all inner l.body)) (bound l.numbers l.slots l.ranges)) l.fn.work l.work (flat_map (λ inner. operators_of l.numbers l.all inner l.body) (take l.choice (bound l.numbers l.slots l.ranges))) l.fn.made l.made;
}
