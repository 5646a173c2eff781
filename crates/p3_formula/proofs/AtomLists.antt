-- The atoms of forms, one after another.
use Rattle.std.proofs.Common.{◌≡◌, ◌∙◌, ℕ, ◌==◌, Bool, true, false, not, ◌&&◌, ◌||◌, List, [], ◌∷◌, ◌++◌, map, refl, sym, ap}
use Rattle.std.specs.List.{flat_map, list_any, list_all}
use Rattle.std.proofs.lemmas.List.Folds.{list_all-append}
use mathlib.Core.Former.{Count}
use denote.Hole.Carrier.{hidden}
use Rattle.p3_formula.specs.Folds.{fold_form, fold_forms}
use Rattle.p3_formula.specs.Forms.{has_atoms, is_other, within_layer}
use Rattle.p3_formula.specs.Modals.{is_read}
use Rattle.p3_base.specs.Operators.{formulas_of}
use Rattle.p3_formula.specs.declared.form.Form.{Form, Row_of-Form, end_of-Form, more_of-Form}
use Rattle.p3_formula.specs.declared.form.Form.TheBlock.{hidden-the_row-Form-0}
use Rattle.p3_formula.specs.declared.form.Form.TheVariants.{True, False, Atom, Not, And, Or, Not', And', Or'}
use Rattle.p3_formula.proofs.FormLemmas.{fold_parts}
use Rattle.p3_formula.specs.AtomLists.{atoms_of, atoms_layer, modal_atoms}
use Rattle.p3_formula.specs.GroundModal.{GroundModal}

pub atoms_of-True : atoms_of True ≡ []
unfolding atoms_of
atoms_of-True = refl

pub atoms_of-False : atoms_of False ≡ []
unfolding atoms_of
atoms_of-False = refl

pub atoms_of-Atom : (atom : ℕ) → atoms_of (Atom atom) ≡ atom ∷ []
unfolding atoms_of
atoms_of-Atom atom = refl

pub atoms_of-Not : (part : Form) → atoms_of (Not part) ≡ atoms_of part
unfolding atoms_of hidden-the_row-Form-0 hidden
atoms_of-Not part = refl

flat_map-map : {A B C : Type 0} (f : B → List C) (g : A → B) (xs : List A) → flat_map f (map g xs) ≡ flat_map (λ x. f (g x)) xs
flat_map-map f g [] = refl
flat_map-map f g (x ∷ xs) = ap (λ rest. f (g x) ++ rest) (flat_map-map f g xs)

pub atoms_of-And : (parts : List Form) → atoms_of (And parts) ≡ flat_map atoms_of parts
unfolding atoms_of
atoms_of-And parts = ap (flat_map (λ part. part)) (fold_parts atoms_layer parts) ∙ flat_map-map (λ part. part) (fold_form atoms_layer) parts

pub atoms_of-Or : (parts : List Form) → atoms_of (Or parts) ≡ flat_map atoms_of parts
unfolding atoms_of
atoms_of-Or parts = ap (flat_map (λ part. part)) (fold_parts atoms_layer parts) ∙ flat_map-map (λ part. part) (fold_form atoms_layer) parts

pub ruleset atoms_of_laws = (atoms_of-True, atoms_of-False, atoms_of-Atom, atoms_of-Not, atoms_of-And, atoms_of-Or)

-- a form has just some atoms where each of its list is one of these
module _ (allowed : ℕ → Bool) where
  and_last : (b : Bool) → b ≡ (b && true)
  and_last b = elim b as (λ v. v ≡ (v && true)) [ true ↦ refl | false ↦ refl ]

  mutual
    unfolding atoms_of has_atoms

    pub has_listed : (form : Form) → has_atoms allowed form ≡ list_all allowed (atoms_of form)
    has_listed True = refl
    has_listed False = refl
    has_listed (Atom atom) = and_last (allowed atom)
    has_listed (Not' shape (more_of-Form part rest)) = has_listed part
    has_listed (And' shape parts) = all_have_listed parts
    has_listed (Or' shape parts) = all_have_listed parts

    all_have_listed : {n : Count} (parts : Row_of-Form n) → list_all (λ part. part) (fold_forms (within_layer allowed) parts) ≡ list_all allowed (flat_map (λ part. part) (fold_forms atoms_layer parts))
    all_have_listed end_of-Form = refl
    all_have_listed (more_of-Form part rest) = (λ i. has_listed part i && all_have_listed rest i) ∙ sym (list_all-append allowed (atoms_of part) (flat_map (λ part. part) (fold_forms atoms_layer rest)))

-- ---- the atoms that an operator reads

all_flat : {A B : Type 0} (test : B → Bool) (f : A → List B) (xs : List A) → list_all (λ x. list_all test (f x)) xs ≡ list_all test (flat_map f xs)
all_flat test f [] = refl
all_flat test f (x ∷ xs) = ap (λ b. list_all test (f x) && b) (all_flat test f xs) ∙ sym (list_all-append test (f x) (flat_map f xs))

some_not : (one : ℕ) (atoms : List ℕ) → not (list_all (is_other one) atoms) ≡ list_any (λ atom. atom == one) atoms
some_not one [] = refl
some_not one (atom ∷ atoms) = outside (atom == one) (list_all (is_other one) atoms) ∙ ap (λ b. (atom == one) || b) (some_not one atoms) where
  outside : (a b : Bool) → not (not a && b) ≡ (a || not b)
  outside true b = refl
  outside false b = refl

-- it is read where it is one of the list
pub read_named : (modal : GroundModal) (atom : ℕ) → is_read modal atom ≡ list_any (λ one. one == atom) (modal_atoms modal)
read_named modal atom =
    (λ i. not (list_all (λ form. has_listed (is_other atom) form i) (formulas_of modal)))
    ∙ ap not (all_flat (is_other atom) atoms_of (formulas_of modal))
    ∙ some_not atom (modal_atoms modal)
