use Rattle.std.proofs.Common.{◌≡◌}
use Rattle.p3_inapplicable.specs.Arguments.{first_other_by}
use Rattle.p3_inapplicable.proofs.ArgumentLemmas.{left}
use Rattle.p3_inapplicable.proofs.argument.first_other.Given as goal

-- the first is among those that are left
abbrev pub invariant-loop-place : goal.invariant-loop-place
invariant-loop-place l = left l.numbers l.parameters l.ranges l.names l.place ≡ first_other_by l.numbers 1 l.parameters l.ranges l.names
