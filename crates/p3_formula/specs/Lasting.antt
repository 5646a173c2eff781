-- Constraints that stay broken once they are.
use Rattle.std.specs.Prelude.{Bool, true, false}
use Rattle.p3_formula.specs.GroundModal.{GroundModal}
use Rattle.p3_base.specs.declared.operator.Operator.TheVariants.{AtEnd, Always, Sometime, AtMostOnce, SometimeAfter, SometimeBefore}

-- a further state mends nothing: what breaks the constraint is a state, or some in a row, and not that one is still to come
abbrev pub stays_broken : GroundModal → Bool
stays_broken (AtEnd f) = false
stays_broken (Always f) = true
stays_broken (Sometime f) = false
stays_broken (AtMostOnce f) = true
stays_broken (SometimeAfter f g) = false
stays_broken (SometimeBefore f g) = true
