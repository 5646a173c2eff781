use Rattle.std.proofs.Common.{◌≡◌, ◌++◌, ◌<◌, drop}
use Rattle.p3_numbers.specs.Choices.{choice_count, choice}
use Rattle.p3_expansion.proofs.choices.push_choice.Given as goal

abbrev pub invariant-loop-range : goal.invariant-loop-range
invariant-loop-range l = record {
  left : l.left ≡ choice_count l.numbers (drop l.range-index l.ranges);
  within : l.rest < l.left;
  choice : l.slots.items ++ choice l.numbers (drop l.range-index l.ranges) l.rest ≡ l.fn.slots.items ++ choice l.numbers l.ranges l.number;
}
