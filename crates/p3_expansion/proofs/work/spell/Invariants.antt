use Rattle.std.proofs.Common.{◌≡◌, take}
use Rattle.p3_expansion.specs.Atoms.{atom_at}
use Rattle.p3_expansion.proofs.work.spell.Given as goal

abbrev pub invariant-loop-arg : goal.invariant-loop-arg
invariant-loop-arg l = l.words.items ≡ atom_at l.slots l.predicate (take l.arg-index l.args)
