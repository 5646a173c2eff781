-- Where the monitor is kept, its accept form is satisfaction.
use Rattle.std.proofs.Common.{◌≡◌, ◌∙◌, ℕ, ◌+◌, not, List, refl, ap, arith}
use Rattle.std.proofs.lemmas.Bool.{and_parts}
use Rattle.p3_formula.specs.Forms.{State, is_set, truth}
use Rattle.p3_formula.specs.GroundSat.{ground_sat}
use Rattle.p3_formula.specs.declared.form.Form.TheVariants.{Atom, Not}
use Rattle.p3_formula.specs.GroundModal.{GroundModal}
use Rattle.p3_base.specs.declared.operator.Operator.TheVariants.{AtEnd, Always, Sometime, AtMostOnce, SometimeAfter, SometimeBefore}
use Rattle.p3_formula.proofs.FormLemmas.{truth-Atom, truth-Not, has_atoms-Atom, has_atoms-Not}
use Rattle.p3_formula.specs.Kept.{accepts, Kept}
use Rattle.p3_monitors.specs.KeepsOn.{Rides, Begins, GoesOn, HasAccept}
use Rattle.p3_monitors.specs.Updates.{accept_form}
use Rattle.p3_formula.proofs.KeptLaws.{accepts_sat}
use Rattle.p3_monitors.proofs.ChangeLaws.{own_from}

module _ (base : ℕ) where
  unset : (state : State) (atom : ℕ) → truth state (Not (Atom atom)) ≡ not (is_set state atom)
  unset state atom = truth-Not state (Atom atom) ∙ ap not (truth-Atom state atom)

  pub accept_truth : (modal : GroundModal) (state : State) → truth state (accept_form base modal) ≡ accepts base modal state
  accept_truth (AtEnd f) state = refl
  accept_truth (Always f) state = truth-Atom state base
  accept_truth (Sometime f) state = truth-Atom state base
  accept_truth (AtMostOnce f) state = unset state (base + 1)
  accept_truth (SometimeAfter f g) state = unset state base
  accept_truth (SometimeBefore f g) state = unset state (base + 1)

  pub accept_sat : (modal : GroundModal) (W : List State) (state : State) → Kept base modal W state → truth state (accept_form base modal) ≡ ground_sat W modal
  accept_sat modal W state kept = accept_truth modal state ∙ accepts_sat base modal W state kept

  pub kept_throughout : (modal : GroundModal) (W : List State) (state : State) → Rides base modal W state → Kept base modal W state
  kept_throughout modal W state (Begins first _ kept) = kept
  kept_throughout modal W state (GoesOn earlier before next step effects others rides keeps_on apart agree) = keeps_on earlier before next others (kept_throughout modal earlier before rides) apart agree

  pub accept_atoms : (modal : GroundModal) → HasAccept base modal (accept_form base modal)
  accept_atoms (AtEnd f) allowed of own = (and_parts _ _ of).0
  accept_atoms (Always f) allowed of own = has_atoms-Atom allowed base ∙ own base (own_from base (Always f) base (omega arith) (omega arith))
  accept_atoms (Sometime f) allowed of own = has_atoms-Atom allowed base ∙ own base (own_from base (Sometime f) base (omega arith) (omega arith))
  accept_atoms (AtMostOnce f) allowed of own = has_atoms-Not allowed (Atom (base + 1)) ∙ has_atoms-Atom allowed (base + 1) ∙ own (base + 1) (own_from base (AtMostOnce f) (base + 1) (omega arith) (omega arith))
  accept_atoms (SometimeAfter f g) allowed of own = has_atoms-Not allowed (Atom base) ∙ has_atoms-Atom allowed base ∙ own base (own_from base (SometimeAfter f g) base (omega arith) (omega arith))
  accept_atoms (SometimeBefore f g) allowed of own = has_atoms-Not allowed (Atom (base + 1)) ∙ has_atoms-Atom allowed (base + 1) ∙ own (base + 1) (own_from base (SometimeBefore f g) (base + 1) (omega arith) (omega arith))
