use Rattle.std.proofs.Common.{◌≡◌, ◌≤◌, length, take}
use Rattle.std.specs.List.{AllZip}
use Rattle.p3_task.specs.Refusals.Flat.{most_conditions}
use Rattle.p3_flat.specs.Conditions.{conditions}
use Rattle.p3_flat.specs.Splitting.{IsPlaced}
use Rattle.p3_flat.proofs.placing.place_all.Given as goal

-- the conditions of the changes passed, and these changes with their places
abbrev pub invariant-loop-change : goal.invariant-loop-change
invariant-loop-change l =
    (l.conditions ≡ conditions (take l.change-index l.effects)) × (length l.conditions ≤ most_conditions) × AllZip (IsPlaced l.conditions) (take l.change-index l.effects) l.changes.items
