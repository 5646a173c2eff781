use Rattle.std.proofs.Common.{◌≡◌, drop}
use Rattle.std.specs.List.{list_any}
use Rattle.p3_regress.specs.Regressed as made
use Rattle.p3_regress.specs.Sorted.{lent}
use Rattle.p3_regress.proofs.changed.is_named.Given as goal

-- the changes that are left decide
abbrev pub invariant-loop-change : goal.invariant-loop-change
invariant-loop-change l = list_any (made.is_of l.add l.atom) (lent (drop l.change-index l.changes)) ≡ list_any (made.is_of l.add l.atom) (lent l.changes)
