-- The atoms that stand in a form, and in a constraint.
use Rattle.std.proofs.Common.{◌≡◌, ◌∙◌, ℕ, ◌<◌, ◌≤◌, nat_lt, ◌==◌, Bool, true, false, not, ◌&&◌, List, [], ◌∷◌, refl, sym, ap, arith}
use Rattle.std.specs.List.{list_all}
use Rattle.std.proofs.lemmas.Bool.{and_parts, and_from, true≢false}
use Rattle.std.proofs.lemmas.Bool.Decides.{nat_tests}
use mathlib.Core.Former.{Count}
use Rattle.p3_formula.specs.Folds.{fold_forms}
use Rattle.p3_formula.specs.Forms.{has_atoms, is_other, within_layer}
use Rattle.p3_formula.specs.declared.form.Form.{Form, Row_of-Form, end_of-Form, more_of-Form}
use Rattle.p3_formula.specs.declared.form.Form.TheVariants.{True, False, Atom, Not', And', Or'}
use Rattle.p3_formula.specs.GroundModal.{GroundModal}
use Rattle.p3_formula.specs.Modals.{is_read, IsModalBelow}
use Rattle.p3_base.specs.Operators.{formulas_of}

pub same_number : (a : ℕ) → (a == a) ≡ true
same_number a = grind (arith, nat_tests)

-- what some atoms are, more are
module _ (some more : ℕ → Bool) (wider : (atom : ℕ) → some atom ≡ true → more atom ≡ true) where
  mutual
    unfolding has_atoms

    pub has_more : (form : Form) → has_atoms some form ≡ true → has_atoms more form ≡ true
    has_more True h = refl
    has_more False h = refl
    has_more (Atom atom) h = wider atom h
    has_more (Not' shape (more_of-Form part rest)) h = has_more part h
    has_more (And' shape parts) h = all_have_more parts h
    has_more (Or' shape parts) h = all_have_more parts h

    all_have_more : {n : Count} (parts : Row_of-Form n) → list_all (λ part. part) (fold_forms (within_layer some) parts) ≡ true → list_all (λ part. part) (fold_forms (within_layer more) parts) ≡ true
    all_have_more end_of-Form h = refl
    all_have_more (more_of-Form part rest) h = let parts = and_parts (has_atoms some part) _ h in and_from (has_atoms more part) _ (has_more part parts.0) (all_have_more rest parts.1)

  pub all_have_more_of : (forms : List Form) → list_all (has_atoms some) forms ≡ true → list_all (has_atoms more) forms ≡ true
  all_have_more_of [] h = refl
  all_have_more_of (form ∷ forms) h = let parts = and_parts (has_atoms some form) _ h in and_from (has_atoms more form) _ (has_more form parts.0) (all_have_more_of forms parts.1)

not-left : (a b : Bool) → not a ≡ true → not (a && b) ≡ true
not-left true b h = absurd (true≢false (sym h))
not-left false b h = refl

not-right : (a b : Bool) → not b ≡ true → not (a && b) ≡ true
not-right true b h = h
not-right false b h = refl

-- where each atom that stands in a form is one of some, the form has just some of those
module _ (allowed : ℕ → Bool) where
  mutual
    unfolding has_atoms

    pub has_those : (form : Form) → ((atom : ℕ) → not (has_atoms (is_other atom) form) ≡ true → allowed atom ≡ true) → has_atoms allowed form ≡ true
    has_those True h = refl
    has_those False h = refl
    has_those (Atom atom) h = h atom (ap (λ b. not (not b)) (same_number atom))
    has_those (Not' shape (more_of-Form part rest)) h = has_those part h
    has_those (And' shape parts) h = all_have_those parts h
    has_those (Or' shape parts) h = all_have_those parts h

    all_have_those : {n : Count} (parts : Row_of-Form n) → ((atom : ℕ) → not (list_all (λ part. part) (fold_forms (within_layer (is_other atom)) parts)) ≡ true → allowed atom ≡ true)
        → list_all (λ part. part) (fold_forms (within_layer allowed) parts) ≡ true
    all_have_those end_of-Form h = refl
    all_have_those (more_of-Form part rest) h =
        and_from (has_atoms allowed part) _
        (has_those part (λ atom at. h atom (not-left (has_atoms (is_other atom) part) _ at)))
        (all_have_those rest (λ atom at. h atom (not-right (has_atoms (is_other atom) part) _ at)))

  all_those : (forms : List Form) → ((atom : ℕ) → not (list_all (has_atoms (is_other atom)) forms) ≡ true → allowed atom ≡ true) → list_all (has_atoms allowed) forms ≡ true
  all_those [] h = refl
  all_those (form ∷ forms) h =
      and_from (has_atoms allowed form) _
      (has_those form (λ atom at. h atom (not-left (has_atoms (is_other atom) form) _ at)))
      (all_those forms (λ atom at. h atom (not-right (has_atoms (is_other atom) form) _ at)))

-- the forms of a constraint have just the atoms that stand in it
pub reads : (modal : GroundModal) → list_all (has_atoms (is_read modal)) (formulas_of modal) ≡ true
reads modal = all_those (is_read modal) (formulas_of modal) (λ atom at. at)

-- an atom that stands in a constraint below a count is below it
module _ (count : ℕ) (modal : GroundModal) (below : IsModalBelow count modal) (atom : ℕ) where
  differs : (count ≤ atom) → (one : ℕ) → nat_lt one count ≡ true → is_other atom one ≡ true
  differs past one lt = let low : (one == atom) ≡ false = grind (arith, nat_tests) in ap not low

  pub read_below : is_read modal atom ≡ true → atom < count
  read_below read = by (nat_lt atom count) refl where
    by : (b : Bool) → nat_lt atom count ≡ b → atom < count
    by true lt = grind (arith, nat_tests)
    by false ge =
        let past : count ≤ atom = grind (arith, nat_tests) in
        absurd (true≢false (sym read ∙ ap not (all_have_more_of (λ one. nat_lt one count) (is_other atom) (differs past) (formulas_of modal) below)))
