use Rattle.std.proofs.Common.{◌≡◌, take}
use Rattle.p3_regress.specs.Sorted.{lent}
use Rattle.p3_regress.proofs.sorted.all_lent.Given as goal

-- the changes passed are lent
abbrev pub invariant-loop-change : goal.invariant-loop-change
invariant-loop-change l = lent l.all.items ≡ take l.change-index l.changes
