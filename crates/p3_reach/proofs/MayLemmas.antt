-- Equations of what may hold, and that only the atoms of a form matter.
use Rattle.std.proofs.Common.{◌≡◌, ◌∙◌, ℕ, ◌≤◌, nat_lt, Bool, true, false, not, ◌||◌, List, ◌∷◌, ◌++◌, length, refl, ap, arith}
use Rattle.std.proofs.lemmas.Bool.{and_parts, ltb-true}
use Rattle.std.proofs.lemmas.List.{get_or_append_left}
use Rattle.std.specs.List.{list_any, list_all}
use Rattle.std.proofs.lemmas.List.Folds.{list_all-map}
use mathlib.Core.Former.{Count}
use denote.Hole.Carrier.{hidden}
use Rattle.p3_formula.specs.Folds.{fold_forms}
use Rattle.p3_formula.specs.Forms.{State, is_set, has_atoms, within_layer, IsBelow}
use Rattle.p3_formula.specs.declared.form.Form.{Form, Row_of-Form, end_of-Form, more_of-Form}
use Rattle.p3_formula.specs.declared.form.Form.TheBlock.{hidden-the_row-Form-0}
use Rattle.p3_formula.specs.declared.form.Form.TheVariants.{True, False, Atom, Not, And, Or, Not', And', Or'}
use Rattle.p3_formula.proofs.FormLemmas.{fold_parts, list_any-map}
use Rattle.p3_reach.specs.May.{may, may_layer, may_hold, may_fail, may_be}

module _ (set : State) where
  pub hold-True : may_hold set True ≡ true
  unfolding may
  hold-True = refl

  pub hold-False : may_hold set False ≡ false
  unfolding may
  hold-False = refl

  pub hold-Atom : (atom : ℕ) → may_hold set (Atom atom) ≡ is_set set atom
  unfolding may
  hold-Atom atom = refl

  pub hold-Not : (part : Form) → may_hold set (Not part) ≡ may_fail set part
  unfolding may hidden-the_row-Form-0 hidden
  hold-Not part = refl

  pub hold-And : (parts : List Form) → may_hold set (And parts) ≡ list_all (may_hold set) parts
  unfolding may
  hold-And parts = ap (list_all (λ (part : Bool × Bool). part.0)) (fold_parts (may_layer set) parts) ∙ list_all-map (λ (part : Bool × Bool). part.0) (may set) parts

  pub hold-Or : (parts : List Form) → may_hold set (Or parts) ≡ list_any (may_hold set) parts
  unfolding may
  hold-Or parts = ap (list_any (λ (part : Bool × Bool). part.0)) (fold_parts (may_layer set) parts) ∙ list_any-map (λ (part : Bool × Bool). part.0) (may set) parts

  pub fail-True : may_fail set True ≡ false
  unfolding may
  fail-True = refl

  pub fail-False : may_fail set False ≡ true
  unfolding may
  fail-False = refl

  pub fail-Atom : (atom : ℕ) → may_fail set (Atom atom) ≡ true
  unfolding may
  fail-Atom atom = refl

  pub fail-Not : (part : Form) → may_fail set (Not part) ≡ may_hold set part
  unfolding may hidden-the_row-Form-0 hidden
  fail-Not part = refl

  pub fail-And : (parts : List Form) → may_fail set (And parts) ≡ list_any (may_fail set) parts
  unfolding may
  fail-And parts = ap (list_any (λ (part : Bool × Bool). part.1)) (fold_parts (may_layer set) parts) ∙ list_any-map (λ (part : Bool × Bool). part.1) (may set) parts

  pub fail-Or : (parts : List Form) → may_fail set (Or parts) ≡ list_all (may_fail set) parts
  unfolding may
  fail-Or parts = ap (list_all (λ (part : Bool × Bool). part.1)) (fold_parts (may_layer set) parts) ∙ list_all-map (λ (part : Bool × Bool). part.1) (may set) parts

module _ (set : State) where
  pub be-True : (holds : Bool) → may_be holds set True ≡ holds
  be-True true = hold-True set
  be-True false = fail-True set

  pub be-False : (holds : Bool) → may_be holds set False ≡ not holds
  be-False true = hold-False set
  be-False false = fail-False set

  pub be-Atom : (holds : Bool) (atom : ℕ) → may_be holds set (Atom atom) ≡ (not holds || is_set set atom)
  be-Atom true atom = hold-Atom set atom
  be-Atom false atom = fail-Atom set atom

  pub be-Not : (holds : Bool) (part : Form) → may_be holds set (Not part) ≡ may_be (not holds) set part
  be-Not true part = hold-Not set part
  be-Not false part = fail-Not set part

pub ruleset may_laws = (be-True, be-False, be-Atom, be-Not, hold-And, hold-Or, fail-And, fail-Or)

-- entries behind those of the atoms have no say
module _ (set more : State) (count : ℕ) (room : count ≤ length set) where
  mutual
    unfolding may has_atoms

    same_may : (form : Form) → has_atoms (λ atom. nat_lt atom count) form ≡ true → may (set ++ more) form ≡ may set form
    same_may True h = refl
    same_may False h = refl
    same_may (Atom atom) h = ap (λ bit. (bit, true)) (get_or_append_left set more false atom (omega (arith, ltb-true atom count h)))
    same_may (Not' shape (more_of-Form part rest)) h = ap (λ (looks : Bool × Bool). (looks.1, looks.0)) (same_may part h)
    same_may (And' shape parts) h = ap (λ looks. (list_all (λ (look : Bool × Bool). look.0) looks, list_any (λ (look : Bool × Bool). look.1) looks)) (same_mays parts h)
    same_may (Or' shape parts) h = ap (λ looks. (list_any (λ (look : Bool × Bool). look.0) looks, list_all (λ (look : Bool × Bool). look.1) looks)) (same_mays parts h)

    same_mays : {n : Count} (parts : Row_of-Form n) → list_all (λ part. part) (fold_forms (within_layer (λ atom. nat_lt atom count)) parts) ≡ true
        → fold_forms (may_layer (set ++ more)) parts ≡ fold_forms (may_layer set) parts
    same_mays end_of-Form h = refl
    same_mays (more_of-Form part rest) h =
        let both = and_parts (has_atoms (λ atom. nat_lt atom count) part) _ h in
        λ i. same_may part both.0 i ∷ same_mays rest both.1 i

  pub same_may_be : (holds : Bool) (form : Form) → IsBelow count form → may_be holds (set ++ more) form ≡ may_be holds set form
  same_may_be true form below = ap (λ (looks : Bool × Bool). looks.0) (same_may form below)
  same_may_be false form below = ap (λ (looks : Bool × Bool). looks.1) (same_may form below)
