use Rattle.std.proofs.Common.{◌≡◌, map, take}
use Rattle.p3_reasons.specs.Outcomes.{literal_of}
use Rattle.p3_reasons.proofs.decision.literals.Given as goal

-- the literals of the atoms passed are listed
abbrev pub invariant-loop-number : goal.invariant-loop-number
invariant-loop-number g l = l.list ≡ map (literal_of (g.F.Facts.has_atom l.facts)) (take l.number l.atoms)
