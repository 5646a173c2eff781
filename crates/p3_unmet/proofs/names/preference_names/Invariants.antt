use Rattle.std.proofs.Common.{◌≡◌, [], take}
use Rattle.p3_numbers.specs.Names.{with_names}
use Rattle.p3_unmet.proofs.names.preference_names.Given as goal

abbrev pub invariant-loop-name : goal.invariant-loop-name
invariant-loop-name l = l.names ≡ with_names [] (take l.name-index l.listed)
