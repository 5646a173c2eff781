use Rattle.std.proofs.Common.{◌≡◌, ◌≤◌, ◌-◌, length, take}
use Rattle.p3_numbers.specs.Choices.{choice_count}
use Rattle.p3_steps.specs.Candidates.{open_choices}
use Rattle.p3_steps.proofs.choices.open_choices.Given as goal

-- the candidates of the ranges passed are kept
abbrev pub invariant-loop-place : goal.invariant-loop-place
invariant-loop-place l = record {
  within : l.place ≤ length l.ranges;
  count : l.count ≡ choice_count l.numbers (take l.place l.ranges);
  kept : l.kept.items ≡ open_choices l.numbers l.statics (take l.place l.ranges) l.goal;
}

abbrev pub decreases-loop-place : goal.decreases-loop-place
decreases-loop-place l = length l.ranges - l.place
