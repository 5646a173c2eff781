use Rattle.std.proofs.Common.{◌^◌, ◌-◌}
use Rattle.p3_reach.specs.Derived.{IsFollowed}
use Rattle.p3_reach.proofs.model.least_model.Given as goal

-- the propositions in the places passed were followed
abbrev pub invariant-loop-at : goal.invariant-loop-at
invariant-loop-at l = IsFollowed l.theory l.at l.found

-- no list has as many places
abbrev pub decreases-loop-at : goal.decreases-loop-at
decreases-loop-at l = 2 ^ 64 - l.at
