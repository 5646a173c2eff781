use Rattle.std.proofs.Common.{◌≡◌, take}
use Rattle.std.specs.Prelude.{flat_map}
use Rattle.std.specs.Hash.DefaultHasher as sip
use Rattle.p3_task.specs.Offences.{kind_names}
use Rattle.p3_numbers.specs.Keys.{told_all}
use Rattle.p3_numbers.proofs.digests.kind_digest.Given as goal

abbrev pub invariant-loop-kind : goal.invariant-loop-kind
invariant-loop-kind l = l.digest.told ≡ told_all sip.initial (flat_map kind_names (take l.kind-index l.kinds))
