use Rattle.std.proofs.Common.{◌≡◌, min, take}
use Rattle.p3_numbers.specs.Choices.{choice_count}
use Rattle.p3_types.proofs.steps.capped_count.Given as goal
use Rattle.p3_types.specs.FirstSteps.{too_many}

abbrev pub invariant-loop-range : goal.invariant-loop-range
invariant-loop-range l = l.count ≡ min (choice_count l.numbers (take l.range-index l.ranges)) too_many
