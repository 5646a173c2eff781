use Rattle.std.proofs.Common.{◌≡◌, ◌++◌, drop}
use Rattle.p3_writer.specs.Layout as layout
use Rattle.p3_writer.proofs.layout.push_set_atoms.Given as goal

-- what is written, and what is left to be
abbrev pub invariant-loop-atom : goal.invariant-loop-atom
invariant-loop-atom l = l.out.items ++ layout.set_atoms (drop l.atom l.bits) (drop l.atom l.names) ≡ l.fn.out.items ++ layout.set_atoms l.bits l.names
