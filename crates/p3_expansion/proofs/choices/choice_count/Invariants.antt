use Rattle.std.proofs.Common.{◌≡◌, ◌*◌, drop}
use Rattle.p3_numbers.specs.Choices.{choice_count}
use Rattle.p3_expansion.proofs.choices.choice_count.Given as goal

abbrev pub invariant-loop-range : goal.invariant-loop-range
invariant-loop-range l = l.count * choice_count l.numbers (drop l.range-index l.ranges) ≡ choice_count l.numbers l.ranges
