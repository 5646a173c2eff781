use Rattle.std.proofs.Common.{◌≡◌, take}
use Rattle.std.specs.Prelude.{flat_map}
use Rattle.std.specs.Hash.DefaultHasher as sip
use Rattle.p3_numbers.specs.Keys.{told_all, value_words}
use Rattle.p3_numbers.proofs.digests.value_key.Given as goal

abbrev pub invariant-loop-entry : goal.invariant-loop-entry
invariant-loop-entry l = l.digest.told ≡ told_all sip.initial (flat_map value_words (take l.entry-index l.entries))
