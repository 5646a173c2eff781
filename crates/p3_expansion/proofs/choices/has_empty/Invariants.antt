use Rattle.std.proofs.Common.{◌<◌, drop}
use Rattle.p3_numbers.specs.Choices.{choice_count}
use Rattle.p3_expansion.proofs.choices.has_empty.Given as goal

-- there are choices where those of what is left are some
abbrev pub invariant-loop-range : goal.invariant-loop-range
invariant-loop-range l = 0 < choice_count l.numbers (drop l.range-index l.ranges) → 0 < choice_count l.numbers l.ranges
