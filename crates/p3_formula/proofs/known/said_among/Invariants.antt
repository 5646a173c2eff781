use Rattle.std.proofs.Common.{◌≡◌, drop}
use Rattle.p3_formula.specs.Literals.{said_of}
use Rattle.p3_formula.proofs.known.said_among.Given as goal

-- the literals that are left say what all of them do
abbrev pub invariant-loop-literal : goal.invariant-loop-literal
invariant-loop-literal l = said_of (drop l.literal-index l.literals) l.atom ≡ said_of l.literals l.atom
