-- The places that are found are those of the busy monitors.
use Rattle.std.proofs.Common.{◌≡◌, ◌∙◌, ◌⊎◌, inl, inr, ℕ, ◌+◌, ◌<◌, ◌≤◌, ◌==◌, Bool, true, false, not, ◌&&◌, ◌||◌, List, [], ◌∷◌, ◌++◌, length, get_or, sym, ap, refl, arith, true≢false}
use Rattle.std.specs.List.{list_any, list_all}
use Rattle.std.specs.List.Sorted.{IsPermutation, IsNonDecreasing}
use Rattle.std.proofs.Math.Bool.{and-true}
use Rattle.std.proofs.lemmas.Bool.{cases_lt}
use Rattle.std.proofs.lemmas.List.Folds.{list_all-append}
use Rattle.std.proofs.lemmas.List.{get_or_default}
use Rattle.std.proofs.lemmas.List.Sorted.{list_any-IsPermutation}
use Rattle.p3_formula.specs.Forms.{has_atoms, is_other}
use Rattle.p3_formula.specs.declared.form.Change.{Change}
use Rattle.p3_formula.specs.declared.form.Form.{Form}
use Rattle.p3_formula.specs.GroundModal.{GroundModal}
use Rattle.p3_base.specs.declared.operator.Operator.TheVariants.{AtEnd, Always, Sometime, AtMostOnce, SometimeAfter, SometimeBefore}
use Rattle.p3_formula.specs.AtomLists.{atoms_of}
use Rattle.p3_formula.proofs.AtomLists.{has_listed}
use Rattle.p3_regress.specs.Readers.{is_at, is_read_at, mentions}
use Rattle.p3_regress.specs.declared.readers.PartReader.{PartReader}
use Rattle.p3_regress.proofs.ReaderLemmas.{any_alike, inside, mentioned, mentions_it, none_of, outside}
use Rattle.p3_monitors.specs.declared.monitoring.Monitor.{Monitor}
use Rattle.p3_compile.specs.Readers.{followed, read_atoms, readers_of}
use Rattle.p3_compile.specs.Lean.{is_busy}
use Rattle.p3_compile.specs.Updated.{AreTouched}

-- ---- a monitor is busy where a change names an atom that it reads

not_all : (atom : ℕ) (atoms : List ℕ) → not (list_all (is_other atom) atoms) ≡ mentions atom atoms
not_all atom [] = refl
not_all atom (one ∷ atoms) = by (one == atom) (not_all atom atoms)
  where
    by : (b : Bool) → not (list_all (is_other atom) atoms) ≡ mentions atom atoms → not (not b && list_all (is_other atom) atoms) ≡ (b || mentions atom atoms)
    by true rest = refl
    by false rest = rest

reads_one : (atom : ℕ) (form : Form) → not (has_atoms (is_other atom) form && true) ≡ mentions atom (atoms_of form)
reads_one atom form = ap not (and-true (has_atoms (is_other atom) form) ∙ has_listed (is_other atom) form) ∙ not_all atom (atoms_of form)

reads_two : (atom : ℕ) (first second : Form) → not (has_atoms (is_other atom) first && (has_atoms (is_other atom) second && true)) ≡ mentions atom (atoms_of first ++ atoms_of second)
reads_two atom first second =
    ap not ((λ i. has_listed (is_other atom) first i && (and-true (has_atoms (is_other atom) second) ∙ has_listed (is_other atom) second) i) ∙ sym (list_all-append (is_other atom) (atoms_of first) (atoms_of second)))
    ∙ not_all atom (atoms_of first ++ atoms_of second)

module _ (step : List Change) where
  pub busy_is : (modal : GroundModal) → is_busy step modal ≡ list_any (λ (change : Change). mentions change.atom (read_atoms modal)) step
  busy_is (AtEnd f) = sym (none_of (λ (change : Change). mentions change.atom []) (λ change. refl) step)
  busy_is (Always f) = any_alike _ _ (λ (change : Change). reads_one change.atom f) step
  busy_is (Sometime f) = any_alike _ _ (λ (change : Change). reads_one change.atom f) step
  busy_is (AtMostOnce f) = any_alike _ _ (λ (change : Change). reads_one change.atom f) step
  busy_is (SometimeAfter f g) = any_alike _ _ (λ (change : Change). reads_two change.atom f g) step
  busy_is (SometimeBefore f g) = any_alike _ _ (λ (change : Change). reads_two change.atom f g) step

  module _ (monitors : List Monitor) (readers : List PartReader) (places : List ℕ) (read : IsPermutation (readers_of monitors) readers) (found : (place : ℕ) → mentions place places ≡ is_read_at step readers place) where
    found_by : (place : ℕ) → mentions place places ≡ is_read_at step (readers_of monitors) place
    found_by place = found place ∙ any_alike _ _ (λ (change : Change). sym (list_any-IsPermutation (is_at change.atom place) (readers_of monitors) readers read)) step

    found_there : (place : ℕ) (d : Monitor) → place < length monitors → mentions place places ≡ is_busy step (get_or monitors place d).modal
    found_there place d within =
        found_by place
        ∙ any_alike _ _ (λ (change : Change). ap (λ n. list_any (is_at change.atom n) (readers_of monitors)) from_zero ∙ inside change.atom followed 0 place monitors d within) step
        ∙ sym (busy_is (get_or monitors place d).modal)
      where
        from_zero : place ≡ 0 + place
        from_zero = omega arith

    found_inside : (place : ℕ) → mentions place places ≡ true → place < length monitors
    found_inside place h = by (cases_lt place (length monitors))
      where
        by : (place < length monitors) ⊎ (length monitors ≤ place) → place < length monitors
        by (inl low) = low
        by (inr high) = absurd (true≢false (sym h ∙ found_by place ∙ none_of _ (λ (change : Change). outside change.atom followed 0 place monitors (inr (omega (arith, high)))) step))

    pub are_touched : IsNonDecreasing places → AreTouched step monitors places
    are_touched rising = record {
      rising = rising;
      within = λ k d low. found_inside (get_or places k d) (mentions_it (get_or places k d) places k low (same_default k d low));
      busy = λ place monitor member. let h = mentions_it place places member.0 member.1 member.2 in sym (found_there place monitor (found_inside place h)) ∙ h;
      all = λ place monitor within busy. mentioned place places (found_there place monitor within ∙ busy);
    }
      where
        same_default : (k d : ℕ) → k < length places → get_or places k (get_or places k d) ≡ get_or places k d
        same_default k d low = get_or_default places k (get_or places k d) d low
