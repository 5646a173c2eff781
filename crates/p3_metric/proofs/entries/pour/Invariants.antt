use Rattle.std.proofs.Common.{◌≡◌, ◌^◌, true, false, List, ℕ, length}
use Rattle.p3_metric.specs.Entries.{AreBelow, AreWithin, IsSomeLarge, number_at, poured, products}
use Rattle.p3_metric.proofs.entries.pour.Given as goal

abbrev pub invariant-loop-entry : goal.invariant-loop-entry
invariant-loop-entry l = record {
  sums : (name : List ℕ) → poured (number_at l.entries) l.fn.factor (number_at l.part) name ≡ poured (number_at l.initial.entries) l.fn.factor (number_at l.initial.part) name;
  part : AreBelow (2 ^ 126) (products l.fn.factor (number_at l.part));
  within : l.within ≡ true → AreWithin (number_at l.initial.entries) → AreWithin (number_at l.entries);
  large : l.within ≡ false → IsSomeLarge (poured (number_at l.initial.entries) l.fn.factor (number_at l.initial.part));
}

abbrev pub decreases-loop-entry : goal.decreases-loop-entry
decreases-loop-entry l = length l.part.entries
