use Rattle.std.proofs.Common.{take}
use Rattle.std.specs.Prelude.{flat_map}
use Rattle.p3_task.specs.Offences.{kind_names}
use Rattle.p3_numbers.specs.Names.{Adds}
use Rattle.p3_resolve.proofs.declared_names.add_kinds.Given as goal

abbrev pub invariant-loop-kind : goal.invariant-loop-kind
invariant-loop-kind l = Adds l.fn.names (flat_map kind_names (take l.kind-index l.kinds)) l.names
