-- Forms with guards, as they are made.
use Rattle.std.proofs.Common.{◌≡◌, ◌∙◌, ℕ, Bool, true, ◌&&◌, nat_le, List, [], ◌∷◌, ◌++◌, length, map, refl, sym, ap}
use Rattle.std.specs.Prelude.{IsTrue}
use Rattle.std.specs.List.{list_all}
use Rattle.std.proofs.Math.Bool.{and-true, and-false}
use Rattle.std.proofs.lemmas.Bool.{and_from, and_parts}
use Rattle.std.proofs.lemmas.List.Folds.{list_all-append, list_all-map}
use mathlib.Core.Former.{Count}
use Rattle.p3_formula.specs.Folds.{fold_forms}
use Rattle.p3_formula.specs.Forms.{State, is_set, truth, truth_layer, has_atoms, within_layer, HasSameTruth, HasAtomsOf}
use Rattle.p3_formula.specs.Guards.{IsGuardedForm}
use Rattle.p3_formula.specs.Simplified.{joined, spread, with_last}
use Rattle.p3_formula.specs.Tidy.{is_tidy, is_tidy_part, look, look_layer, look_of_parts}
use Rattle.p3_formula.specs.declared.form.Form.{Form, Row_of-Form, items-the_row-Form}
use Rattle.p3_formula.specs.declared.form.Form.TheVariants.{True, False, Atom, Not', And', Or'}
use Rattle.p3_formula.proofs.AtomLaws.{joined_atoms}
use Rattle.p3_formula.proofs.FormLemmas.{truth-False, truth-Atom, has_atoms-Atom, row_forms}
use Rattle.p3_formula.proofs.TidyLaws.{joined_tidy}
use Rattle.p3_formula.proofs.TruthLaws.{joined_truth}

atoms_set : (state : State) (guards : List ℕ) → list_all (truth state) (map Atom guards) ≡ list_all (is_set state) guards
atoms_set state [] = refl
atoms_set state (guard ∷ guards) = λ i. truth-Atom state guard i && atoms_set state guards i

atoms_allowed : (allowed : ℕ → Bool) (guards : List ℕ) → list_all (has_atoms allowed) (map Atom guards) ≡ list_all allowed guards
atoms_allowed allowed [] = refl
atoms_allowed allowed (guard ∷ guards) = λ i. has_atoms-Atom allowed guard i && atoms_allowed allowed guards i

guards_tidy : (guards : List ℕ) → list_all is_tidy_part (map Atom guards) ≡ true
unfolding look
guards_tidy [] = refl
guards_tidy (guard ∷ guards) = guards_tidy guards

-- ---- one part more

module _ (state : State) where
  pub spread_truth : (part : Form) → list_all (truth state) (spread part) ≡ truth state part
  unfolding truth
  spread_truth True = refl
  spread_truth False = refl
  spread_truth (Atom atom) = and-true _
  spread_truth (Not' shape part) = and-true _
  spread_truth (And' shape parts) = sym (ap (list_all (λ part. part)) (row_forms (truth_layer state) parts) ∙ list_all-map (λ part. part) (truth state) (items-the_row-Form _ parts))
  spread_truth (Or' shape parts) = and-true _

  joined_last : (kept : List Form) (part : Form) → truth state (joined true (kept ++ spread part)) ≡ (list_all (truth state) kept && truth state part)
  joined_last kept part = joined_truth state true (kept ++ spread part) ∙ list_all-append (truth state) kept (spread part) ∙ ap (λ b. list_all (truth state) kept && b) (spread_truth part)

  last_truth : (kept : List Form) (part : Form) → truth state (with_last kept part) ≡ (list_all (truth state) kept && truth state part)
  last_truth kept True = joined_last kept True
  last_truth kept False = truth-False state ∙ sym (and-false (list_all (truth state) kept)) ∙ ap (λ b. list_all (truth state) kept && b) (sym (truth-False state))
  last_truth kept (Atom atom) = joined_last kept (Atom atom)
  last_truth kept (Not' shape part) = joined_last kept (Not' shape part)
  last_truth kept (And' shape parts) = joined_last kept (And' shape parts)
  last_truth kept (Or' shape parts) = joined_last kept (Or' shape parts)

module _ (allowed : ℕ → Bool) where
  pub spread_atoms : (part : Form) → list_all (has_atoms allowed) (spread part) ≡ has_atoms allowed part
  unfolding has_atoms
  spread_atoms True = refl
  spread_atoms False = refl
  spread_atoms (Atom atom) = and-true _
  spread_atoms (Not' shape part) = and-true _
  spread_atoms (And' shape parts) = sym (ap (list_all (λ part. part)) (row_forms (within_layer allowed) parts) ∙ list_all-map (λ part. part) (has_atoms allowed) (items-the_row-Form _ parts))
  spread_atoms (Or' shape parts) = and-true _

  joined_last_atoms : (kept : List Form) (part : Form) → list_all (has_atoms allowed) kept ≡ true → has_atoms allowed part ≡ true → has_atoms allowed (joined true (kept ++ spread part)) ≡ true
  joined_last_atoms kept part h k = joined_atoms allowed true (kept ++ spread part) ∙ list_all-append (has_atoms allowed) kept (spread part) ∙ and_from _ _ h (spread_atoms part ∙ k)

  last_atoms : (kept : List Form) (part : Form) → list_all (has_atoms allowed) kept ≡ true → has_atoms allowed part ≡ true → has_atoms allowed (with_last kept part) ≡ true
  last_atoms kept True h k = joined_last_atoms kept True h k
  last_atoms kept False h k = k
  last_atoms kept (Atom atom) h k = joined_last_atoms kept (Atom atom) h k
  last_atoms kept (Not' shape part) h k = joined_last_atoms kept (Not' shape part) h k
  last_atoms kept (And' shape parts) h k = joined_last_atoms kept (And' shape parts) h k
  last_atoms kept (Or' shape parts) h k = joined_last_atoms kept (Or' shape parts) h k

one_tidy : (part : Form) → is_tidy_part part ≡ true → list_all is_tidy_part (part ∷ []) ≡ true
one_tidy part fits = and_from (is_tidy_part part) true fits refl

-- the parts of a tidy conjunction are tidy parts
row_tidy : {n : Count} (parts : Row_of-Form n) → (look_of_parts (fold_forms look_layer parts)).fits ≡ true → list_all is_tidy_part (items-the_row-Form n parts) ≡ true
unfolding look
row_tidy {n} parts h =
    sym (ap (list_all (λ part. part.fits)) (row_forms look_layer parts) ∙ list_all-map (λ part. part.fits) look (items-the_row-Form n parts))
    ∙ (and_parts (nat_le 2 (length (fold_forms look_layer parts))) _ h).1

joined_last_tidy : (kept : List Form) (part : Form) → list_all is_tidy_part kept ≡ true → list_all is_tidy_part (spread part) ≡ true → is_tidy (joined true (kept ++ spread part)) ≡ true
joined_last_tidy kept part h k = joined_tidy true (kept ++ spread part) (list_all-append is_tidy_part kept (spread part) ∙ and_from (list_all is_tidy_part kept) _ h k)

last_tidy : (kept : List Form) (part : Form) → list_all is_tidy_part kept ≡ true → is_tidy part ≡ true → is_tidy (with_last kept part) ≡ true
unfolding look
last_tidy kept True h k = joined_last_tidy kept True h refl
last_tidy kept False h k = refl
last_tidy kept (Atom atom) h k = joined_last_tidy kept (Atom atom) h (one_tidy (Atom atom) k)
last_tidy kept (Not' shape part) h k = joined_last_tidy kept (Not' shape part) h (one_tidy (Not' shape part) k)
last_tidy kept (And' shape parts) h k = joined_last_tidy kept (And' shape parts) h (row_tidy parts k)
last_tidy kept (Or' shape parts) h k = joined_last_tidy kept (Or' shape parts) h (one_tidy (Or' shape parts) k)

-- a tidy form behind guards
pub guarded_form : (guards : List ℕ) (condition simple : Form) → HasSameTruth simple condition → IsTrue (is_tidy simple) → HasAtomsOf simple condition
    → IsGuardedForm guards condition (with_last (map Atom guards) simple)
guarded_form guards condition simple same tidy atoms = record {
  fits = λ state. last_truth state (map Atom guards) simple ∙ (λ i. atoms_set state guards i && same state i);
  tidy = last_tidy (map Atom guards) simple (guards_tidy guards) tidy;
  reads = λ allowed set within. last_atoms allowed (map Atom guards) simple (atoms_allowed allowed guards ∙ set) (atoms allowed within);
}
