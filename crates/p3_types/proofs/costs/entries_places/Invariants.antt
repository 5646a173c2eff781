use Rattle.std.proofs.Common.{◌≡◌, take}
use Rattle.p3_types.specs.Costs.{most_of, entry_places}
use Rattle.p3_types.proofs.costs.entries_places.Given as goal

abbrev pub invariant-loop-entry : goal.invariant-loop-entry
invariant-loop-entry l = l.most ≡ most_of entry_places (take l.entry-index l.entries)
