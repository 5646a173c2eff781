use Rattle.std.proofs.Common.{◌≡◌, take}
use Rattle.std.specs.Prelude.{flat_map}
use Rattle.std.specs.Hash.DefaultHasher as sip
use Rattle.p3_task.specs.Types.{names_of}
use Rattle.p3_numbers.specs.Keys.{told_all}
use Rattle.p3_numbers.proofs.digests.list_key.Given as goal

abbrev pub invariant-loop-types : goal.invariant-loop-types
invariant-loop-types l = l.digest.told ≡ told_all sip.initial (flat_map (λ types. names_of types.now) (take l.types-index l.lists))
