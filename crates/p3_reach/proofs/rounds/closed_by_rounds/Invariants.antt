use Rattle.std.specs.List.{list_all}
use Rattle.p3_reach.specs.Closed.{step_keeps}
use Rattle.p3_reach.specs.Grown.{IsGrown}
use Rattle.p3_reach.proofs.rounds.closed_by_rounds.Given as goal

-- the atoms have grown from the initial ones
abbrev pub invariant-loop-round : goal.invariant-loop-round
invariant-loop-round l = IsGrown (λ set. list_all (step_keeps set) l.task.steps) l.task.initial l.atoms
