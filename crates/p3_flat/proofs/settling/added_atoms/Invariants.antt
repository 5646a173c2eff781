use Rattle.std.proofs.Common.{◌≡◌, ℕ, take}
use Rattle.p3_flat.specs.Splitting.{has_atom, is_added_in}
use Rattle.p3_flat.proofs.settling.added_atoms.Given as goal

-- the atoms are those that the changes passed set
abbrev pub invariant-loop-change : goal.invariant-loop-change
invariant-loop-change l = (atom : ℕ) → has_atom l.atoms atom ≡ is_added_in l.pattern (take l.change-index l.changes) atom
