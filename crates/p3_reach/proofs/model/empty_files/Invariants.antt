use Rattle.std.proofs.Common.{◌≡◌, [], replicate}
use Rattle.p3_reach.proofs.model.empty_files.Given as goal

abbrev pub invariant-loop-place : goal.invariant-loop-place
invariant-loop-place l = l.files.items ≡ replicate (l.place) []
