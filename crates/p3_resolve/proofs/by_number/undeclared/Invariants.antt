use Rattle.std.proofs.Common.{◌≡◌, [], replicate}
use Rattle.p3_resolve.proofs.by_number.undeclared.Given as goal

abbrev pub invariant-loop-place : goal.invariant-loop-place
invariant-loop-place l = l.table.items ≡ replicate (l.place) []
