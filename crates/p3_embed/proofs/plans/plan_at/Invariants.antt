use Rattle.std.proofs.Common.{◌≡◌, take}
use Rattle.p3_embed.specs.Plans.{steps_at}
use Rattle.p3_embed.proofs.plans.plan_at.Given as goal

-- the steps at the places passed are there
abbrev pub invariant-loop-place : goal.invariant-loop-place
invariant-loop-place l = l.plan ≡ steps_at l.target (take l.place-index l.places)
