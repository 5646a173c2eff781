use Rattle.std.proofs.Common.{◌≡◌, take}
use Rattle.p3_regress.specs.Sorted.{lent}
use Rattle.p3_regress.proofs.ReaderLemmas.{places_in}
use Rattle.p3_regress.proofs.readers.places_read.Given as goal

-- the changes passed are looked at
abbrev pub invariant-loop-change : goal.invariant-loop-change
invariant-loop-change l = l.places.items ≡ places_in l.readers (lent (take l.change-index l.changes))
