use Rattle.std.proofs.Common.{◌≡◌, map, take}
use Rattle.p3_scenes.specs.Lent.{lent_operator}
use Rattle.p3_unmet.specs.Sketches.{inquiry_of, seen_inquiry}
use Rattle.p3_unmet.proofs.draft.inquiries.Given as goal

abbrev pub invariant-loop-evidence : goal.invariant-loop-evidence
invariant-loop-evidence l = map seen_inquiry l.list ≡ map (inquiry_of (lent_operator l.scene.operator)) (take l.evidence-index l.evident)
