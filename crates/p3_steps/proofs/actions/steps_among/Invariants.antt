use Rattle.std.proofs.Common.{◌≡◌, [], take}
use Rattle.p3_expansion.specs.Walks.{Pushes}
use Rattle.p3_steps.specs.Steps.{StepsAreMade, all_atoms, count_of_steps, steps_from, with_numbers}
use Rattle.p3_steps.proofs.RisingNumbers.{IsLeft}
use Rattle.p3_steps.proofs.actions.steps_among.Given as goal

-- the steps of the actions passed are made, and the numbers of those that follow are left
abbrev pub invariant-loop-action : goal.invariant-loop-action
invariant-loop-action l = record {
  first : l.first ≡ count_of_steps l.task.numbers (take l.action-index l.task.actions);
  left : IsLeft l.first l.those l.left;
  pushes : Pushes (StepsAreMade l.task l.statics l.costs.places) (all_atoms l.task.numbers (with_numbers l.those (steps_from l.task.numbers l.statics 0 (take l.action-index l.task.actions)))) l.fn.work l.work
      (with_numbers l.those (steps_from l.task.numbers l.statics 0 (take l.action-index l.task.actions))) [] l.made;
}
