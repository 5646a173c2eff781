-- Constraints that stay broken once they are: satisfied over more states, they are satisfied over those before.
use Rattle.std.proofs.Common.{◌≡◌, ◌∙◌, Bool, true, false, not, ◌||◌, List, [], ◌∷◌, ◌++◌, refl, sym, ap, append_assoc, true≢false}
use Rattle.std.proofs.lemmas.Bool.{and_parts}
use Rattle.std.proofs.lemmas.List.{append-nil}
use Rattle.p3_formula.specs.Forms.{State, truth}
use Rattle.p3_formula.specs.GroundSat.{ground_sat}
use Rattle.p3_formula.specs.Lasting.{stays_broken}
use Rattle.p3_formula.specs.declared.form.Form.{Form}
use Rattle.p3_formula.specs.GroundModal.{GroundModal}
use Rattle.p3_base.specs.declared.operator.Operator.TheVariants.{AtEnd, Always, Sometime, AtMostOnce, SometimeAfter, SometimeBefore}
use Rattle.p3_formula.proofs.WatchedLaws.{each-next, came-next, early-next, sat-AtMostOnce, sat-SometimeBefore}

neither : (a b : Bool) → not (a || b) ≡ true → not a ≡ true
neither true b h = h
neither false b h = refl

module _ (W : List State) (next : State) where
  always_before : (f : Form) → ground_sat (W ++ next ∷ []) (Always f) ≡ true → ground_sat W (Always f) ≡ true
  unfolding ground_sat
  always_before f h = (and_parts _ (truth next f) (sym (each-next W next f) ∙ h)).0

  once_before : (f g : Form) → ground_sat (W ++ next ∷ []) (AtMostOnce f) ≡ true → ground_sat W (AtMostOnce f) ≡ true
  once_before f g h = sat-AtMostOnce W f g ∙ neither _ _ (sym (ap not (came-next W next f)) ∙ sym (sat-AtMostOnce (W ++ next ∷ []) f g) ∙ h)

  before_before : (f g : Form) → ground_sat (W ++ next ∷ []) (SometimeBefore f g) ≡ true → ground_sat W (SometimeBefore f g) ≡ true
  before_before f g h = sat-SometimeBefore W f g ∙ neither _ _ (sym (ap not (early-next W next f g)) ∙ sym (sat-SometimeBefore (W ++ next ∷ []) f g) ∙ h)

  one_before : (modal : GroundModal) → stays_broken modal ≡ true → ground_sat (W ++ next ∷ []) modal ≡ true → ground_sat W modal ≡ true
  one_before (AtEnd f) stays h = absurd (true≢false (sym stays))
  one_before (Always f) stays h = always_before f h
  one_before (Sometime f) stays h = absurd (true≢false (sym stays))
  one_before (AtMostOnce f) stays h = once_before f f h
  one_before (SometimeAfter f g) stays h = absurd (true≢false (sym stays))
  one_before (SometimeBefore f g) stays h = before_before f g h

pub satisfied_before : (W rest : List State) (modal : GroundModal) → stays_broken modal ≡ true → ground_sat (W ++ rest) modal ≡ true → ground_sat W modal ≡ true
satisfied_before W [] modal stays h = sym (ap (λ V. ground_sat V modal) (append-nil W)) ∙ h
satisfied_before W (next ∷ rest) modal stays h =
    one_before W next modal stays (satisfied_before (W ++ next ∷ []) rest modal stays (ap (λ V. ground_sat V modal) (append_assoc W (next ∷ []) rest) ∙ h))

pub broken_after : (W rest : List State) (modal : GroundModal) → stays_broken modal ≡ true → ground_sat W modal ≡ false → ground_sat (W ++ rest) modal ≡ false
broken_after W rest modal stays broken = by (ground_sat (W ++ rest) modal) refl where
  by : (b : Bool) → ground_sat (W ++ rest) modal ≡ b → ground_sat (W ++ rest) modal ≡ false
  by false off = off
  by true on = absurd (true≢false (sym (satisfied_before W rest modal stays on) ∙ broken))
