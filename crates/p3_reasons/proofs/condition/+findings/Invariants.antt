use Rattle.std.proofs.Common.{◌≡◌, map, length, take}
use Rattle.p3_numbers.specs.Slots.{bound}
use Rattle.p3_reasons.specs.Outcomes.{outcome}
use Rattle.p3_reasons.proofs.GatheringLemmas.{Begun}
use Rattle.p3_reasons.proofs.condition.+findings.Given as goal

-- no part that was passed decides alone
abbrev pub invariant-parts_finding-loop-part : goal.invariant-parts_finding-loop-part
invariant-parts_finding-loop-part g l = Begun l.every (map (outcome l.numbers (g.F.Facts.has_atom l.facts) l.slots) (take l.part-index l.parts)) l.gathered

abbrev pub invariant-bodies_finding-loop-choice : goal.invariant-bodies_finding-loop-choice
invariant-bodies_finding-loop-choice g l = record {
  outer : take (length l.slots) l.inner.items ≡ l.slots;
  begun : Begun l.every (map (λ inner. outcome l.numbers (g.F.Facts.has_atom l.facts) inner l.body) (take l.choice (bound l.numbers l.slots l.ranges))) l.gathered;
}
