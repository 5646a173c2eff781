-- What the worked actions compute to.
use Rattle.std.proofs.Common.{refl}
use Rattle.p3_formula.specs.Same.{same_form}
use Rattle.p3_formula.proofs.Worked.{computes}
use Rattle.p3_flat.specs.Worked.{WorkedActions}

pub worked_actions : WorkedActions
unfolding computes same_form
worked_actions = record { both = refl; both_name = refl; one_name = refl; own_name = refl; repeated = refl; twelve = refl; thirteen = refl }
