use Rattle.std.proofs.Common.{◌≡◌, take}
use Rattle.p3_numbers.specs.Keys.{parameter_types, told_all}
use Rattle.p3_numbers.proofs.digests.tell_parameters.Given as goal

abbrev pub invariant-loop-parameter : goal.invariant-loop-parameter
invariant-loop-parameter l = l.digest.told ≡ told_all l.fn.digest.told (parameter_types (take l.parameter-index l.parameters))
