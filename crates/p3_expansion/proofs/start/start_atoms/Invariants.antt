use Rattle.std.proofs.Common.{◌≡◌, [], map, take}
use Rattle.std.specs.Prelude.{fold}
use Rattle.p3_expansion.specs.Atoms.{with_atom}
use Rattle.p3_expansion.specs.Statics.{atom_of}
use Rattle.p3_expansion.proofs.start.start_atoms.Given as goal

abbrev pub invariant-loop-fact : goal.invariant-loop-fact
invariant-loop-fact l = l.atoms ≡ fold with_atom [] (map atom_of (take l.fact-index l.task.start))
