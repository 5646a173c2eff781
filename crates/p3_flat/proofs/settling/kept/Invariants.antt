use Rattle.std.proofs.Common.{◌≡◌, take}
use Rattle.p3_flat.specs.Splitting.{has_atom, settled_by}
use Rattle.p3_flat.proofs.settling.kept.Given as goal

-- the changes passed that happen
abbrev pub invariant-loop-change : goal.invariant-loop-change
invariant-loop-change l = l.effects.items ≡ settled_by l.pattern (has_atom l.added) (take l.change-index l.changes)
