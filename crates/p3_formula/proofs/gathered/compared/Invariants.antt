use Rattle.std.proofs.Common.{◌≡◌, [], drop, take}
use Rattle.p3_formula.specs.Settled.{gathered}
use Rattle.p3_formula.proofs.gathered.compared.Given as goal

-- the pieces passed are all kept
abbrev pub invariant-loop-place : goal.invariant-loop-place
invariant-loop-place l = gathered l.every (take l.place l.pieces) (drop l.place l.pieces) ≡ gathered l.every [] l.pieces
