use Rattle.std.specs.List.{list_all}
use Rattle.p3_reach.specs.Closed.{step_keeps}
use Rattle.p3_reach.specs.Grown.{IsGrown}
use Rattle.p3_reach.proofs.rounds.look_round.Given as goal

-- the atoms have grown by the steps
abbrev pub invariant-loop-look : goal.invariant-loop-look
invariant-loop-look l = IsGrown (λ set. list_all (step_keeps set) l.steps) l.fn.atoms l.atoms
