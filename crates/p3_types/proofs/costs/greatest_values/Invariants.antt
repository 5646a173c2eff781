use Rattle.std.proofs.Common.{◌≡◌, ℕ, ◌<◌, get_or, length, take}
use Rattle.p3_types.specs.Costs.{greatest_of}
use Rattle.p3_types.proofs.costs.greatest_values.Given as goal

abbrev pub invariant-loop-value : goal.invariant-loop-value
invariant-loop-value l = record {
  len : length l.greatest.items ≡ l.functions;
  greatest : (k : ℕ) → k < l.functions → get_or l.greatest.items k 0 ≡ greatest_of l.places (take l.value-index l.values) k;
}
