use Rattle.std.proofs.Common.{◌≡◌, take}
use Rattle.std.specs.Prelude.{fold}
use Rattle.p3_task.specs.Offences.{unknown_types}
use Rattle.p3_resolve.specs.Spots.{step}
use Rattle.p3_resolve.proofs.notes.types_unknown.Given as goal

abbrev pub invariant-loop-item : goal.invariant-loop-item
invariant-loop-item l = l.least ≡ fold step l.fn.found (unknown_types l.tables.task.now (take l.item-index l.items))
