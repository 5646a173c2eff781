use Rattle.std.proofs.Common.{◌≡◌, map, take}
use Rattle.p3_numbers.specs.Keys.{told_all}
use Rattle.p3_numbers.proofs.keys.Digest.tell_declared.Given as goal

abbrev pub invariant-loop-item : goal.invariant-loop-item
invariant-loop-item l = l.self.told ≡ told_all l.fn.self.told (map (λ item. item.name.name) (take l.item-index l.items))
