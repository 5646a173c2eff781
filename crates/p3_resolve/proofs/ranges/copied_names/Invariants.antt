use Rattle.std.proofs.Common.{◌≡◌, take}
use Rattle.p3_task.specs.Types.{names_of}
use Rattle.p3_resolve.proofs.ranges.copied_names.Given as goal

abbrev pub invariant-loop-kind : goal.invariant-loop-kind
invariant-loop-kind l = l.names ≡ names_of (take l.kind-index l.types)
