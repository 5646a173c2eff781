use Rattle.std.proofs.Common.{◌≡◌, ◌++◌, take}
use Rattle.p3_regress.specs.Readers.{places_of}
use Rattle.p3_regress.proofs.readers.push_places.Given as goal

-- the places of the readers passed are there
abbrev pub invariant-loop-reader : goal.invariant-loop-reader
invariant-loop-reader l = l.places.items ≡ l.fn.places.items ++ places_of (take l.reader-index l.readers)
