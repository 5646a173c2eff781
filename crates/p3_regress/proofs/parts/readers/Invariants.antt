use Rattle.std.proofs.Common.{◌≡◌, map, take}
use Rattle.p3_formula.specs.AtomLists.{atoms_of}
use Rattle.p3_regress.specs.Readers.{readers_from}
use Rattle.p3_regress.proofs.parts.readers.Given as goal

-- the parts passed read their atoms
abbrev pub invariant-loop-place : goal.invariant-loop-place
invariant-loop-place l = l.readers.items ≡ readers_from 0 (map atoms_of (take l.place l.parts))
