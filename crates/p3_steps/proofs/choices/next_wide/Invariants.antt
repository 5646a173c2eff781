use Rattle.std.proofs.Common.{◌≡◌, ◌<◌, ◌≤◌, ◌-◌, length, take, drop}
use Rattle.p3_numbers.specs.Choices.{choice_count}
use Rattle.p3_steps.proofs.choices.next_wide.Given as goal

-- the ranges passed have one object each
abbrev pub invariant-loop-last : goal.invariant-loop-last
invariant-loop-last l = record {
  on : l.place ≤ l.last;
  within : l.last < length l.ranges;
  ones : choice_count l.numbers (drop l.place (take l.last l.ranges)) ≡ 1;
}

abbrev pub decreases-loop-last : goal.decreases-loop-last
decreases-loop-last l = length l.ranges - l.last
