use Rattle.std.proofs.Common.{◌≡◌, take}
use Rattle.std.specs.Prelude.{fold, flat_map}
use Rattle.p3_task.specs.Names.{has_name}
use Rattle.p3_task.specs.Offences.{unless, declared_types}
use Rattle.p3_resolve.specs.Spots.{step}
use Rattle.p3_resolve.proofs.notes.kinds_unknown.Given as goal

abbrev pub invariant-loop-kind : goal.invariant-loop-kind
invariant-loop-kind l = l.least ≡ fold step l.fn.found (flat_map (λ kind. unless (has_name (declared_types l.tables.task.now) kind.name) kind) (take l.kind-index l.kinds))
