use Rattle.std.proofs.Common.{◌≡◌, take}
use Rattle.std.specs.Prelude.{flat_map}
use Rattle.std.specs.Hash.DefaultHasher as sip
use Rattle.p3_numbers.specs.Keys.{told_numbers}
use Rattle.p3_steps.specs.Costs.{numbers_in}
use Rattle.p3_steps.proofs.costs.value_key.Given as goal

abbrev pub invariant-loop-value : goal.invariant-loop-value
invariant-loop-value l = l.digest.told ≡ told_numbers sip.initial (flat_map numbers_in (take l.value-index l.values))
