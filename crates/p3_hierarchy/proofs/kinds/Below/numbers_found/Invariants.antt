use Rattle.std.proofs.Common.{◌≡◌, take}
use Rattle.std.specs.Prelude.{flat_map}
use Rattle.p3_hierarchy.specs.Typings.{numbers_under, typings_of}
use Rattle.p3_hierarchy.proofs.kinds.Below.numbers_found.Given as goal

abbrev pub invariant-loop-place : goal.invariant-loop-place
invariant-loop-place l = l.numbers.items ≡ flat_map (numbers_under (typings_of l.declarations.entries.items)) (take l.place l.self.found)
