-- The six operators over states where f and g hold or not, and what the atoms of their monitors say of a few states.
use Rattle.std.proofs.Common.{◌≡◌, refl, true, false, List, [], ◌∷◌}
use Rattle.p3_formula.specs.Forms.{State, truth}
use Rattle.p3_formula.specs.GroundSat.{ground_sat}
use Rattle.p3_formula.specs.Kept.{watched}
use Rattle.p3_formula.specs.declared.form.Form.{Form}
use Rattle.p3_formula.specs.declared.form.Form.TheVariants.{Atom}
use Rattle.p3_formula.specs.GroundModal.{GroundModal}
use Rattle.p3_base.specs.declared.operator.Operator.TheVariants.{AtEnd, Always, Sometime, AtMostOnce, SometimeAfter, SometimeBefore}

abbrev pub f : Form
f = Atom 0

abbrev pub g : Form
g = Atom 1

abbrev pub neither : State
neither = false ∷ false ∷ []

abbrev pub f_alone : State
f_alone = true ∷ false ∷ []

abbrev pub g_alone : State
g_alone = false ∷ true ∷ []

abbrev pub both : State
both = true ∷ true ∷ []

-- states that satisfy the operator, and states that do not
abbrev Tells : GroundModal → List State → List State → Type 0
Tells modal good bad = (ground_sat good modal ≡ true) × (ground_sat bad modal ≡ false)

pub at_end : Tells (AtEnd f) (neither ∷ f_alone ∷ []) (f_alone ∷ neither ∷ [])
unfolding truth ground_sat
at_end = (refl, refl)

pub always : Tells (Always f) (f_alone ∷ both ∷ []) (f_alone ∷ neither ∷ f_alone ∷ [])
unfolding truth ground_sat
always = (refl, refl)

pub sometime : Tells (Sometime f) (neither ∷ f_alone ∷ neither ∷ []) (neither ∷ g_alone ∷ [])
unfolding truth ground_sat
sometime = (refl, refl)

-- a second state without a gap is no second time
pub at_most_once : Tells (AtMostOnce f) (neither ∷ f_alone ∷ both ∷ neither ∷ []) (f_alone ∷ neither ∷ f_alone ∷ [])
unfolding truth ground_sat
at_most_once = (refl, refl)

-- the same state is late enough
pub sometime_after : Tells (SometimeAfter f g) (f_alone ∷ both ∷ []) (g_alone ∷ f_alone ∷ neither ∷ [])
unfolding truth ground_sat
sometime_after = (refl, refl)

-- but it is not early enough
pub sometime_before : Tells (SometimeBefore f g) (g_alone ∷ f_alone ∷ []) (both ∷ g_alone ∷ [])
unfolding truth ground_sat
sometime_before = (refl, refl)

-- ---- the atoms of their monitors

pub watched_at_end : watched (f_alone ∷ []) (AtEnd f) ≡ []
watched_at_end = refl

pub watched_always : watched (f_alone ∷ both ∷ neither ∷ []) (Always f) ≡ false ∷ []
unfolding truth
watched_always = refl

pub watched_sometime : watched (neither ∷ both ∷ neither ∷ []) (Sometime f) ≡ true ∷ []
unfolding truth
watched_sometime = refl

-- it held; it did not come back
pub watched_at_most_once : watched (f_alone ∷ both ∷ neither ∷ []) (AtMostOnce f) ≡ true ∷ false ∷ []
unfolding truth
watched_at_most_once = refl

-- nor is it a gap where it has not held before
pub watched_at_most_once_late : watched (neither ∷ f_alone ∷ []) (AtMostOnce f) ≡ true ∷ false ∷ []
unfolding truth
watched_at_most_once_late = refl

pub watched_at_most_once_again : watched (f_alone ∷ neither ∷ f_alone ∷ []) (AtMostOnce f) ≡ true ∷ true ∷ []
unfolding truth
watched_at_most_once_again = refl

-- awaited from the last state on, and not where the same state has both
pub watched_sometime_after : watched (f_alone ∷ g_alone ∷ f_alone ∷ []) (SometimeAfter f g) ≡ true ∷ []
unfolding truth
watched_sometime_after = refl

pub watched_sometime_after_both : watched (f_alone ∷ both ∷ []) (SometimeAfter f g) ≡ false ∷ []
unfolding truth
watched_sometime_after_both = refl

-- too early where the same state has both
pub watched_sometime_before : watched (g_alone ∷ f_alone ∷ []) (SometimeBefore f g) ≡ true ∷ false ∷ []
unfolding truth
watched_sometime_before = refl

pub watched_sometime_before_both : watched (both ∷ []) (SometimeBefore f g) ≡ true ∷ true ∷ []
unfolding truth
watched_sometime_before_both = refl
