use Rattle.std.proofs.Common.{◌∙◌, map, ap}
use Rattle.p3_formula.specs.declared.task.GroundStep.{GroundStep}
use Rattle.p3_reach.specs.May.{may_hold}
use Rattle.p3_reach.proofs.ReachLaws.{reached, unfit}
use Rattle.p3_reach.proofs.reach.reachable.Goals as goal

pub returns-clause-reached : goal.returns-clause-reached
returns-clause-reached c = reached c.args.task.now c.in_ok-atoms.atoms c.in_ok-atoms.ensures.closed

pub returns-clause-unfit : goal.returns-clause-unfit
returns-clause-unfit c = unfit c.args.task.now (record { atoms = c.in_ok-atoms.atoms; steps = c.in_ok-steps.steps }) c.in_ok-atoms.ensures.closed
    (c.in_ok-steps.ensures ∙ ap (map (λ (step : GroundStep). may_hold c.in_ok-atoms.atoms step.pre)) c.items.ensures)
