use Rattle.std.proofs.Common.{◌≡◌, map, take}
use Rattle.std.specs.Hash.DefaultHasher as sip
use Rattle.p3_numbers.specs.Keys.{told_all}
use Rattle.p3_numbers.proofs.digests.name_key.Given as goal

abbrev pub invariant-loop-name : goal.invariant-loop-name
invariant-loop-name l = l.digest.told ≡ told_all sip.initial (map (λ name. name.now) (take l.name-index l.names))
