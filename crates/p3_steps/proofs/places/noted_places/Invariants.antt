use Rattle.std.proofs.Common.{◌≡◌, length}
use Rattle.p3_steps.proofs.places.noted_places.Given as goal

abbrev pub invariant-loop-place : goal.invariant-loop-place
invariant-loop-place l = length l.places.items ≡ l.size
