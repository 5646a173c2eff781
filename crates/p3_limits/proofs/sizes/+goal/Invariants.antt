use Rattle.std.proofs.Common.{◌≡◌, drop}
use Rattle.p3_limits.specs.Cuts.{cut_total}
use Rattle.p3_limits.specs.Sizes.{goal_size}
use Rattle.p3_limits.proofs.sizes.+goal.Given as goal

-- the parts that are left give the rest of the sum
abbrev pub invariant-goals_size-loop-part : goal.invariant-goals_size-loop-part
invariant-goals_size-loop-part l = cut_total (goal_size l.numbers) l.total (drop l.part-index l.parts) ≡ cut_total (goal_size l.numbers) 1 l.parts
