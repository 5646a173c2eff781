use Rattle.std.proofs.Common.{take}
use Rattle.std.specs.List.{list_all}
use Rattle.p3_reach.specs.Closed.{change_keeps}
use Rattle.p3_reach.specs.Grown.{IsGrown}
use Rattle.p3_reach.proofs.rounds.add_all.Given as goal

-- they have grown by the changes passed
abbrev pub invariant-loop-change : goal.invariant-loop-change
invariant-loop-change l = IsGrown (λ set. list_all (change_keeps set) (take l.change-index l.changes)) l.fn.atoms l.atoms
