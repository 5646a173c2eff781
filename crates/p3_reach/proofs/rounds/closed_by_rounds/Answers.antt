use Rattle.std.proofs.Common.{subst}
use Rattle.std.specs.List.{list_all}
use Rattle.p3_reach.specs.Closed.{step_keeps}
use Rattle.p3_reach.specs.Grown.{IsGrown}
use Rattle.p3_reach.proofs.GrownLaws.{grown_again}
use Rattle.p3_reach.proofs.rounds.closed_by_rounds.Goals as goal

pub returns-then-keeps_all-clause-least : goal.returns-then-keeps_all-clause-least
returns-then-keeps_all-clause-least c other closed =
    let grown = grown_again (λ set. list_all (step_keeps set) c.args.task.now.steps) c.args.task.now.initial c.loop-round.atoms c.look_round.new.atoms c.loop-round.invariant
    (subst (λ steps. IsGrown (λ set. list_all (step_keeps set) steps) c.loop-round.atoms c.look_round.new.atoms) c.items-in-loop-round.ensures c.in_ok-look_round.ensures) in
    grown.least other closed.steps closed.initial

pub loop-round-preserved : goal.loop-round-preserved
loop-round-preserved c = grown_again (λ set. list_all (step_keeps set) c.args.task.now.steps) c.args.task.now.initial c.loop-round.atoms c.look_round.new.atoms c.loop-round.invariant
    (subst (λ steps. IsGrown (λ set. list_all (step_keeps set) steps) c.loop-round.atoms c.look_round.new.atoms) c.items-in-loop-round.ensures c.in_ok-look_round.ensures)
