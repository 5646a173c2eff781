use Rattle.std.proofs.Common.{◌≡◌, ◌<◌, ◌++◌, drop}
use Rattle.p3_numbers.specs.Choices.{choice_count, choice}
use Rattle.p3_types.proofs.steps.chosen.Given as goal

abbrev pub invariant-loop-range : goal.invariant-loop-range
invariant-loop-range l = record {
  block : l.block ≡ choice_count l.numbers (drop l.range-index l.ranges);
  within : l.rest < l.block;
  chosen : choice l.numbers l.ranges l.number ≡ l.chosen.items ++ choice l.numbers (drop l.range-index l.ranges) l.rest;
}
