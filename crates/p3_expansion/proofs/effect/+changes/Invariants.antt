use Rattle.std.proofs.Common.{◌≡◌, length, take}
use Rattle.std.specs.Prelude.{flat_map}
use Rattle.p3_numbers.specs.Slots.{bound}
use Rattle.p3_expansion.specs.Changes.{ChangesUnder, effect_atoms, guarded_literals}
use Rattle.p3_expansion.proofs.effect.+changes.Given as goal

abbrev pub invariant-push_all-loop-part : goal.invariant-push_all-loop-part
invariant-push_all-loop-part l =
    ChangesUnder l.numbers l.statics l.guard (flat_map (effect_atoms l.numbers l.slots) l.parts) l.fn.work l.work (λ above. flat_map (guarded_literals l.numbers above l.guard.is_free l.slots) (take l.part-index l.parts)) l.fn.made l.made

abbrev pub invariant-push_each-loop-choice : goal.invariant-push_each-loop-choice
invariant-push_each-loop-choice l = record {
  outer : take (length l.slots) l.inner.items ≡ l.slots;
  under : ChangesUnder l.numbers l.statics l.guard (flat_map (λ inner. effect_atoms l.numbers inner l.body) (bound l.numbers l.slots l.ranges)) l.fn.work l.work (λ above. flat_map (λ inner. guarded_literals l.numbers above l.guard.is_free inner l.body) (take l.choice (bound l.numbers l.slots l.ranges))) l.fn.made l.made;
}
