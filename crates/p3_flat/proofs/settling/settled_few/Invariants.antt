use Rattle.std.proofs.Common.{◌≡◌, take}
use Rattle.p3_flat.specs.Splitting.{is_added_in, settled_by}
use Rattle.p3_flat.proofs.settling.settled_few.Given as goal

-- the changes passed that happen
abbrev pub invariant-loop-change : goal.invariant-loop-change
invariant-loop-change l = l.effects.items ≡ settled_by l.pattern (is_added_in l.pattern l.changes) (take l.change-index l.changes)
