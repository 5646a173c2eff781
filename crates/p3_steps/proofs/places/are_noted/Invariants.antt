use Rattle.std.proofs.Common.{◌≡◌, ◌<◌, ℕ, length, get_or}
use Rattle.p3_steps.proofs.places.are_noted.Given as goal

-- the places of the objects passed are noted
abbrev pub invariant-loop-place : goal.invariant-loop-place
invariant-loop-place l = (place : ℕ) → place < l.place → get_or l.places (get_or l.objects place 0) (length l.objects) ≡ place
