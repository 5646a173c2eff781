use Rattle.std.proofs.Common.{◌≡◌, take}
use Rattle.p3_task.specs.Types.{names_of}
use Rattle.p3_numbers.specs.Keys.{told_all}
use Rattle.p3_numbers.proofs.keys.Digest.tell_types.Given as goal

abbrev pub invariant-loop-kind : goal.invariant-loop-kind
invariant-loop-kind l = l.self.told ≡ told_all l.fn.self.told (names_of (take l.kind-index l.types))
