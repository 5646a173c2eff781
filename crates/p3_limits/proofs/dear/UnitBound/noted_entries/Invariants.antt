use Rattle.std.proofs.Common.{◌≡◌, fold, None, take}
use Rattle.p3_limits.specs.Dear.{noted_entry}
use Rattle.p3_limits.proofs.dear.UnitBound.noted_entries.Given as goal

abbrev pub invariant-loop-entry : goal.invariant-loop-entry
invariant-loop-entry l = l.found ≡ fold (noted_entry l.self.side l.self.places l.self.role) None (take l.entry-index l.entries)
