use Rattle.std.proofs.Common.{◌≡◌, true, map, length, take}
use Rattle.p3_numbers.specs.Slots.{bound}
use Rattle.p3_reasons.specs.Outcomes.{hard_outcome}
use Rattle.p3_reasons.proofs.GatheringLemmas.{Begun}
use Rattle.p3_reasons.proofs.goal.+hard.Given as goal

-- each part that was passed holds
abbrev pub invariant-hard_parts_finding-loop-part : goal.invariant-hard_parts_finding-loop-part
invariant-hard_parts_finding-loop-part g l = Begun true (map (hard_outcome l.numbers (g.F.Facts.has_atom l.facts) l.slots) (take l.part-index l.parts)) l.gathered

abbrev pub invariant-hard_bodies_finding-loop-choice : goal.invariant-hard_bodies_finding-loop-choice
invariant-hard_bodies_finding-loop-choice g l = record {
  outer : take (length l.slots) l.inner.items ≡ l.slots;
  begun : Begun true (map (λ inner. hard_outcome l.numbers (g.F.Facts.has_atom l.facts) inner l.body) (take l.choice (bound l.numbers l.slots l.ranges))) l.gathered;
}
