use Rattle.std.proofs.Common.{◌≡◌, true, length, take}
use Rattle.p3_numbers.specs.Slots.{bound}
use Rattle.p3_expansion.specs.Expansions.{Gathers}
use Rattle.p3_expansion.specs.Hard.{hard_meaning, hard_parts, hard_bodies}
use Rattle.p3_expansion.specs.Meanings.{parts_meanings, reads_of}
use Rattle.p3_expansion.proofs.goal.+hard.Given as goal

abbrev pub invariant-hard_parts-loop-part : goal.invariant-hard_parts-loop-part
invariant-hard_parts-loop-part l =
    Gathers l.numbers l.statics (reads_of (hard_parts l.numbers l.slots l.parts)) l.fn.work l.work true (parts_meanings (hard_meaning l.numbers l.slots) (take l.part-index l.parts)) l.gathered

abbrev pub invariant-hard_bodies-loop-choice : goal.invariant-hard_bodies-loop-choice
invariant-hard_bodies-loop-choice l = record {
  outer : take (length l.slots) l.inner.items ≡ l.slots;
  gathers : Gathers l.numbers l.statics (reads_of (hard_bodies l.numbers l.slots l.ranges l.body)) l.fn.work l.work true (parts_meanings (λ inner. hard_meaning l.numbers inner l.body) (take l.choice (bound l.numbers l.slots l.ranges))) l.gathered;
}
