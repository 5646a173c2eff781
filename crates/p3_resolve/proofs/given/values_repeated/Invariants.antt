use Rattle.std.proofs.Common.{◌≡◌, [], take}
use Rattle.std.specs.Prelude.{fold}
use Rattle.p3_task.specs.Offences.{repeated_values}
use Rattle.p3_resolve.specs.Spots.{step}
use Rattle.p3_resolve.specs.Given.{Tells}
use Rattle.p3_resolve.proofs.given.values_repeated.Given as goal

abbrev pub invariant-loop-entry : goal.invariant-loop-entry
invariant-loop-entry l =
    record { least : l.least ≡ fold step l.fn.found (repeated_values [] (take l.entry-index l.entries)); given : Tells l.given (take l.entry-index l.entries) }
