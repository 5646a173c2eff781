-- What may hold, or fail, over a set of atoms may do so over a greater one.
use Rattle.std.proofs.Common.{◌≡◌, Bool, true, false, ◌&&◌, ◌||◌, refl, ap, ◌∙◌}
use Rattle.std.specs.List.{list_any, list_all}
use mathlib.Core.Former.{Count}
use Rattle.p3_formula.specs.Folds.{fold_forms}
use Rattle.p3_formula.specs.Forms.{State}
use Rattle.p3_formula.specs.declared.form.Form.{Form, Row_of-Form, end_of-Form, more_of-Form}
use Rattle.p3_formula.specs.declared.form.Form.TheVariants.{True, False, Atom, Not', And', Or'}
use Rattle.p3_reach.specs.May.{may, may_layer, may_hold, may_fail}
use Rattle.p3_reach.specs.Closed.{IsWithin}

and-to : (a b c d : Bool) → (a ≡ true → c ≡ true) → (b ≡ true → d ≡ true) → (a && b) ≡ true → (c && d) ≡ true
and-to true b c d f g h = ap (λ x. x && d) (f refl) ∙ g h
and-to false b c d f g h = absurd (cc)

or-to : (a b c d : Bool) → (a ≡ true → c ≡ true) → (b ≡ true → d ≡ true) → (a || b) ≡ true → (c || d) ≡ true
or-to true b c d f g h = ap (λ x. x || d) (f refl)
or-to false b true d f g h = refl
or-to false b false d f g h = g h

module _ (small great : State) (within : IsWithin small great) where
  mutual
    unfolding may

    pub hold-grows : (form : Form) → may_hold small form ≡ true → may_hold great form ≡ true
    hold-grows True h = h
    hold-grows False h = h
    hold-grows (Atom atom) h = within atom h
    hold-grows (Not' shape (more_of-Form part rest)) h = fail-grows part h
    hold-grows (And' shape parts) h = all-hold parts h
    hold-grows (Or' shape parts) h = some-hold parts h

    fail-grows : (form : Form) → may_fail small form ≡ true → may_fail great form ≡ true
    fail-grows True h = h
    fail-grows False h = h
    fail-grows (Atom atom) h = h
    fail-grows (Not' shape (more_of-Form part rest)) h = hold-grows part h
    fail-grows (And' shape parts) h = some-fail parts h
    fail-grows (Or' shape parts) h = all-fail parts h

    all-hold : {n : Count} (parts : Row_of-Form n) → list_all (λ (part : Bool × Bool). part.0) (fold_forms (may_layer small) parts) ≡ true → list_all (λ (part : Bool × Bool). part.0) (fold_forms (may_layer great) parts) ≡ true
    all-hold end_of-Form h = h
    all-hold (more_of-Form part rest) h = and-to _ _ _ _ (hold-grows part) (all-hold rest) h

    some-hold : {n : Count} (parts : Row_of-Form n) → list_any (λ (part : Bool × Bool). part.0) (fold_forms (may_layer small) parts) ≡ true → list_any (λ (part : Bool × Bool). part.0) (fold_forms (may_layer great) parts) ≡ true
    some-hold end_of-Form h = h
    some-hold (more_of-Form part rest) h = or-to _ _ _ _ (hold-grows part) (some-hold rest) h

    all-fail : {n : Count} (parts : Row_of-Form n) → list_all (λ (part : Bool × Bool). part.1) (fold_forms (may_layer small) parts) ≡ true → list_all (λ (part : Bool × Bool). part.1) (fold_forms (may_layer great) parts) ≡ true
    all-fail end_of-Form h = h
    all-fail (more_of-Form part rest) h = and-to _ _ _ _ (fail-grows part) (all-fail rest) h

    some-fail : {n : Count} (parts : Row_of-Form n) → list_any (λ (part : Bool × Bool). part.1) (fold_forms (may_layer small) parts) ≡ true → list_any (λ (part : Bool × Bool). part.1) (fold_forms (may_layer great) parts) ≡ true
    some-fail end_of-Form h = h
    some-fail (more_of-Form part rest) h = or-to _ _ _ _ (fail-grows part) (some-fail rest) h
