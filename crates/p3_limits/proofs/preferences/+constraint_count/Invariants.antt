use Rattle.std.proofs.Common.{◌≡◌, drop}
use Rattle.p3_limits.specs.Cuts.{cut_total}
use Rattle.p3_limits.specs.Preferences.{constraint_count}
use Rattle.p3_limits.proofs.preferences.+constraint_count.Given as goal

-- the parts that are left give the rest of the sum
abbrev pub invariant-constraints_count-loop-part : goal.invariant-constraints_count-loop-part
invariant-constraints_count-loop-part l = cut_total (constraint_count l.numbers) l.total (drop l.part-index l.parts) ≡ cut_total (constraint_count l.numbers) 0 l.parts
