use Rattle.std.proofs.Common.{take, map}
use Rattle.p3_expansion.specs.Walks.{Pushes}
use Rattle.p3_steps.specs.Steps.{StepsAreMade, planned_step, all_atoms}
use Rattle.p3_steps.proofs.actions.push_steps_at.Given as goal

abbrev pub invariant-loop-choice : goal.invariant-loop-choice
invariant-loop-choice l =
    Pushes (StepsAreMade l.task l.statics l.costs.places) (all_atoms l.task.numbers (map (planned_step l.action l.first) (take l.choice-index l.choices))) l.fn.work l.work
    (map (planned_step l.action l.first) (take l.choice-index l.choices)) l.fn.made l.made
