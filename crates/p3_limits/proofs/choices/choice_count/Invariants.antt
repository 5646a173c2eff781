use Rattle.std.proofs.Common.{◌≡◌, ◌*◌, length, drop}
use Rattle.std.specs.Prelude.{fold}
use Rattle.p3_numbers.specs.Slots.{range_at}
use Rattle.p3_limits.specs.Cuts.{cut, cut_choices}
use Rattle.p3_limits.proofs.choices.choice_count.Given as goal

-- the ranges that are left give the rest of the product
abbrev pub invariant-loop-range : goal.invariant-loop-range
invariant-loop-range l = fold (λ product range. cut (product * length (range_at l.numbers range))) l.count (drop l.range-index l.ranges) ≡ cut_choices l.numbers l.ranges
