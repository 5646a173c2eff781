use Rattle.std.proofs.Common.{◌≡◌, [], drop}
use Rattle.p3_regress.specs.Regressed as made
use Rattle.p3_regress.specs.Sorted.{lent}
use Rattle.p3_regress.proofs.changed.conditions.Given as goal

-- what is kept and the changes that are left make up the whole
abbrev pub invariant-loop-change : goal.invariant-loop-change
invariant-loop-change l = made.conditions l.add l.atom l.conds.items (lent (drop l.change-index l.changes)) ≡ made.conditions l.add l.atom [] (lent l.changes)
