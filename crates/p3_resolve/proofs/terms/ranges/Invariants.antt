use Rattle.std.proofs.Common.{◌≡◌, take}
use Rattle.p3_numbers.specs.Places.{ranges_of}
use Rattle.p3_resolve.specs.NumbersOf.{numbers_of}
use Rattle.p3_resolve.proofs.terms.ranges.Given as goal

abbrev pub invariant-loop-variable : goal.invariant-loop-variable
invariant-loop-variable l = l.ranges ≡ ranges_of (numbers_of l.tables) (take l.variable-index l.variables)
