use Rattle.std.proofs.Common.{◌≡◌, drop}
use Rattle.p3_inapplicable.specs.Reasons.{action_in}
use Rattle.p3_inapplicable.proofs.reason.action_place.Given as goal

-- the first is among the actions that are left
abbrev pub invariant-loop-place : goal.invariant-loop-place
invariant-loop-place l = action_in (drop l.place l.actions) l.name ≡ action_in l.actions l.name
