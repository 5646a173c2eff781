use Rattle.std.proofs.Common.{◌≡◌, take}
use Rattle.p3_regress.specs.Sorted.{lent}
use Rattle.p3_regress.specs.Turned.{turned_parts}
use Rattle.p3_regress.proofs.turning.turned_all.Given as goal

-- the parts passed that may turn stand there as they are before the changes
abbrev pub invariant-loop-part : goal.invariant-loop-part
invariant-loop-part l = l.kept.items ≡ turned_parts (lent l.changes) l.up (take l.part-index l.parts)
