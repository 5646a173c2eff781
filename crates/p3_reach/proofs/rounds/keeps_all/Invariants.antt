use Rattle.std.proofs.Common.{◌≡◌, drop}
use Rattle.std.specs.List.{list_all}
use Rattle.p3_reach.specs.Closed.{step_keeps}
use Rattle.p3_reach.proofs.rounds.keeps_all.Given as goal

-- the steps that are left decide
abbrev pub invariant-loop-step : goal.invariant-loop-step
invariant-loop-step l = list_all (step_keeps l.atoms) (drop l.step-index l.steps) ≡ list_all (step_keeps l.atoms) l.steps
