use Rattle.std.proofs.Common.{◌≡◌, [], take}
use Rattle.p3_expansion.specs.Walks.{Pushes}
use Rattle.p3_steps.specs.Steps.{StepsAreMade, count_of_steps, steps_from, all_atoms}
use Rattle.p3_steps.proofs.actions.steps.Given as goal

abbrev pub invariant-loop-action : goal.invariant-loop-action
invariant-loop-action l = record {
  first : l.first ≡ count_of_steps l.task.numbers (take l.action-index l.task.actions);
  pushes : Pushes (StepsAreMade l.task l.statics l.costs.places) (all_atoms l.task.numbers (steps_from l.task.numbers l.statics 0 (take l.action-index l.task.actions))) l.fn.work l.work
      (steps_from l.task.numbers l.statics 0 (take l.action-index l.task.actions)) [] l.made;
}
