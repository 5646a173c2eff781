use Rattle.std.proofs.Common.{◌≡◌, ◌++◌, ℕ, List, length}
use Rattle.std.specs.Io.KnownBytes.{Appends}
use Rattle.p3_base.proofs.real_files.write_all.Given as goal

-- some of the bytes, the first ones, are written, and the rest is left
abbrev pub invariant-loop-rest : goal.invariant-loop-rest
invariant-loop-rest g l = (front : List ℕ) × (l.fn.bytes ≡ front ++ l.rest) × Appends (g.T.Write.contents l.fn.target) (g.T.Write.contents l.target) front

abbrev pub decreases-loop-rest : goal.decreases-loop-rest
decreases-loop-rest g l = length l.rest
