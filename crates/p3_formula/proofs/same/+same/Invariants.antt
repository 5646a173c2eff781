use Rattle.std.proofs.Common.{◌≡◌, drop, map}
use Rattle.p3_formula.specs.Same.{each_passes, same_form}
use Rattle.p3_formula.proofs.same.+same.Given as goal

-- the answer is that for what is left
abbrev pub invariant-are_same-loop-place : goal.invariant-are_same-loop-place
invariant-are_same-loop-place l = each_passes (map same_form (drop l.place l.parts)) (drop l.place l.others) ≡ each_passes (map same_form l.parts) l.others
