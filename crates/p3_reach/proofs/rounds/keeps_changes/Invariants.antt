use Rattle.std.proofs.Common.{◌≡◌, drop}
use Rattle.std.specs.List.{list_all}
use Rattle.p3_reach.specs.Closed.{change_keeps}
use Rattle.p3_reach.proofs.rounds.keeps_changes.Given as goal

-- the changes that are left decide
abbrev pub invariant-loop-change : goal.invariant-loop-change
invariant-loop-change l = list_all (change_keeps l.atoms) (drop l.change-index l.changes) ≡ list_all (change_keeps l.atoms) l.changes
