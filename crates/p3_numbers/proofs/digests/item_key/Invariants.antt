use Rattle.std.proofs.Common.{◌≡◌, map, take}
use Rattle.std.specs.Hash.DefaultHasher as sip
use Rattle.p3_numbers.specs.Keys.{told_all}
use Rattle.p3_numbers.proofs.digests.item_key.Given as goal

abbrev pub invariant-loop-item : goal.invariant-loop-item
invariant-loop-item l = l.digest.told ≡ told_all sip.initial (map (λ item. item.now.name.name) (take l.item-index l.items))
