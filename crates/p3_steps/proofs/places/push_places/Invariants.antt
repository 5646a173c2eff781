use Rattle.std.proofs.Common.{◌≡◌, ◌++◌, take}
use Rattle.std.specs.Prelude.{flat_map}
use Rattle.p3_steps.specs.Candidates.{noted_at}
use Rattle.p3_steps.proofs.places.push_places.Given as goal

-- the places of the objects passed are found
abbrev pub invariant-loop-object : goal.invariant-loop-object
invariant-loop-object l = l.found.items ≡ l.fn.found.items ++ flat_map (noted_at l.places l.count) (take l.object-index l.row)
