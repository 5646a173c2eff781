use Rattle.std.proofs.Common.{◌≡◌, min, map, take}
use Rattle.std.specs.Prelude.{sum}
use Rattle.p3_numbers.specs.Choices.{choice_count}
use Rattle.p3_types.specs.FirstSteps.{firsts_from, too_many}
use Rattle.p3_types.proofs.steps.first_steps.Given as goal

abbrev pub invariant-loop-action : goal.invariant-loop-action
invariant-loop-action l = record {
  first : l.first ≡ min (sum (map (λ action. choice_count l.task.numbers action.ranges) (take l.action-index l.task.actions))) too_many;
  firsts : l.firsts.items ≡ firsts_from 0 (map (λ action. choice_count l.task.numbers action.ranges) (take l.action-index l.task.actions));
}
