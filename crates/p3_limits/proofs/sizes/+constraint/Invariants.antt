use Rattle.std.proofs.Common.{◌≡◌, drop}
use Rattle.p3_limits.specs.Cuts.{cut_total}
use Rattle.p3_limits.specs.Sizes.{constraint_size}
use Rattle.p3_limits.proofs.sizes.+constraint.Given as goal

-- the parts that are left give the rest of the sum
abbrev pub invariant-constraints_size-loop-part : goal.invariant-constraints_size-loop-part
invariant-constraints_size-loop-part l = cut_total (constraint_size l.numbers) l.total (drop l.part-index l.parts) ≡ cut_total (constraint_size l.numbers) 1 l.parts
