use Rattle.std.proofs.Common.{◌≡◌, map, take}
use Rattle.std.specs.Hash.DefaultHasher as sip
use Rattle.p3_numbers.specs.Keys.{told_all}
use Rattle.p3_resolve.proofs.worded.word_key.Given as goal

abbrev pub invariant-loop-item : goal.invariant-loop-item
invariant-loop-item g l = l.digest.told ≡ told_all sip.initial (map (λ item. (g.T.Worded.word_of item).name) (take l.item-index l.items))
