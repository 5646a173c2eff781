use Rattle.std.proofs.Common.{◌≡◌, take, false}
use Rattle.std.specs.List.{AllWithin}
use Rattle.p3_formula.specs.declared.target.TargetAction.{TargetAction}
use Rattle.p3_flat.specs.Conditions.{is_too_wide}
use Rattle.p3_flat.specs.Flattened.{AreFlattened}
use Rattle.p3_flat.proofs.flattening.all_copies.Given as goal

-- the copies of the actions passed, none of which has too many conditions
abbrev pub invariant-loop-place : goal.invariant-loop-place
invariant-loop-place l = AreFlattened (take l.place l.target.actions) l.made.items × AllWithin (λ (action : TargetAction). is_too_wide action ≡ false) l.target.actions 0 l.place
