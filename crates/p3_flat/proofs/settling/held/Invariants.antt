use Rattle.std.proofs.Common.{◌≡◌, take}
use Rattle.std.specs.Prelude.{count_by}
use Rattle.p3_flat.specs.declared.placing.Placed.{Placed}
use Rattle.p3_flat.specs.Splitting.{holds_in}
use Rattle.p3_flat.proofs.settling.held.Given as goal

-- how many of the conditions passed hold
abbrev pub invariant-loop-change : goal.invariant-loop-change
invariant-loop-change l = l.count ≡ count_by (λ (change : Placed). holds_in l.pattern change.place) (take l.change-index l.changes)
