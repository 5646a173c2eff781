use Rattle.std.proofs.Common.{◌≡◌, map, take}
use Rattle.p3_reach.specs.May.{may_hold}
use Rattle.p3_reach.proofs.reach.fitting.Given as goal

-- the steps passed are decided
abbrev pub invariant-loop-step : goal.invariant-loop-step
invariant-loop-step l = l.fits ≡ map (λ step. may_hold l.atoms step.pre) (take l.step-index l.steps)
