use Rattle.std.proofs.Common.{◌≡◌, length, take}
use Rattle.std.specs.Prelude.{flat_map}
use Rattle.p3_numbers.specs.Goals.{preferences}
use Rattle.p3_numbers.specs.Slots.{bound}
use Rattle.p3_expansion.specs.Preferences.{PreferencesStand, preference_atoms}
use Rattle.p3_expansion.specs.Walks.{Pushes}
use Rattle.p3_expansion.proofs.preference.+preferences.Given as goal

abbrev pub invariant-push_parts-loop-part : goal.invariant-push_parts-loop-part
invariant-push_parts-loop-part l =
    Pushes (PreferencesStand l.numbers l.statics) (flat_map (preference_atoms l.numbers l.slots) l.parts) l.fn.work l.work (flat_map (preferences l.numbers l.slots) (take l.part-index l.parts)) l.fn.made l.made

abbrev pub invariant-push_bodies-loop-choice : goal.invariant-push_bodies-loop-choice
invariant-push_bodies-loop-choice l = record {
  outer : take (length l.slots) l.inner.items ≡ l.slots;
  pushes : Pushes (PreferencesStand l.numbers l.statics) (flat_map (λ inner. preference_atoms l.numbers inner l.body) (bound l.numbers l.slots l.ranges)) l.fn.work l.work (flat_map (λ inner. preferences l.numbers inner l.body) (take l.choice (bound l.numbers l.slots l.ranges))) l.fn.made l.made;
}
