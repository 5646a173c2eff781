use Rattle.std.proofs.Common.{◌≡◌, take}
use Rattle.std.specs.Prelude.{flat_map}
use Rattle.p3_numbers.specs.Keys.{parameter_types, told_all}
use Rattle.p3_numbers.proofs.digests.tell_headers.Given as goal

abbrev pub invariant-loop-header : goal.invariant-loop-header
invariant-loop-header l = l.digest.told ≡ told_all l.fn.digest.told (flat_map (λ header. parameter_types header.params) (take l.header-index l.headers))
