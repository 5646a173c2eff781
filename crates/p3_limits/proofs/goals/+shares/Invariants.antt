use Rattle.std.proofs.Common.{◌≡◌, drop}
use Rattle.p3_limits.specs.Cuts.{cut_total}
use Rattle.p3_limits.specs.Bounds.{shares}
use Rattle.p3_limits.proofs.goals.+shares.Given as goal

-- the parts that are left give the rest of the sum
abbrev pub invariant-parts_shares-loop-part : goal.invariant-parts_shares-loop-part
invariant-parts_shares-loop-part l = cut_total (shares l.measure l.by_name l.numbers) l.total (drop l.part-index l.parts) ≡ cut_total (shares l.measure l.by_name l.numbers) 0 l.parts
