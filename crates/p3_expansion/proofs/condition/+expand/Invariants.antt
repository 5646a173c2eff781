use Rattle.std.proofs.Common.{◌≡◌, length, take}
use Rattle.p3_numbers.specs.Slots.{bound}
use Rattle.p3_expansion.specs.Expansions.{Gathers}
use Rattle.p3_expansion.specs.Meanings.{condition_meaning, parts_meanings, combined, quantified, reads_of}
use Rattle.p3_expansion.proofs.condition.+expand.Given as goal

abbrev pub invariant-gathered_parts-loop-part : goal.invariant-gathered_parts-loop-part
invariant-gathered_parts-loop-part l =
    Gathers l.numbers l.statics (reads_of (combined l.numbers l.slots l.parts)) l.fn.work l.work l.every (parts_meanings (condition_meaning l.numbers l.slots) (take l.part-index l.parts)) l.gathered

abbrev pub invariant-gathered_body-loop-choice : goal.invariant-gathered_body-loop-choice
invariant-gathered_body-loop-choice l = record {
  outer : take (length l.slots) l.inner.items ≡ l.slots;
  gathers : Gathers l.numbers l.statics (reads_of (quantified l.numbers l.slots l.ranges l.body)) l.fn.work l.work l.every (parts_meanings (λ inner. condition_meaning l.numbers inner l.body) (take l.choice (bound l.numbers l.slots l.ranges))) l.gathered;
}
