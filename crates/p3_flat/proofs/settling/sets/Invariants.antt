use Rattle.std.proofs.Common.{◌≡◌, false, take}
use Rattle.p3_flat.specs.Splitting.{is_added_in}
use Rattle.p3_flat.proofs.settling.sets.Given as goal

-- none of those passed sets the atom
abbrev pub invariant-loop-change : goal.invariant-loop-change
invariant-loop-change l = is_added_in l.pattern (take l.change-index l.changes) l.atom ≡ false
