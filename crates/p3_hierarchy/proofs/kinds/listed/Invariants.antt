use Rattle.std.proofs.Common.{◌≡◌, [], take}
use Rattle.p3_task.specs.Types.{names_of}
use Rattle.p3_numbers.specs.Names.{with_names}
use Rattle.p3_hierarchy.proofs.kinds.listed.Given as goal

abbrev pub invariant-loop-kind : goal.invariant-loop-kind
invariant-loop-kind l = l.found ≡ with_names [] (names_of (take l.kind-index l.types))
