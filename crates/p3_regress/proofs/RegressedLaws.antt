-- A regressed form: its truth, its atoms and its size.
use Rattle.std.proofs.Common.{◌≡◌, ◌∙◌, ℕ, ◌+◌, ◌≤◌, ◌==◌, nat_lt, Bool, true, not, List, ◌∷◌, map, length, sum, sum_by, refl, sym, ap, arith}
use Rattle.std.specs.List.{list_any, list_all}
use Rattle.std.proofs.lemmas.Bool.{and_parts, and_from, not-true}
use Rattle.std.proofs.lemmas.Bool.Decides.{nat_tests}
use Rattle.std.proofs.lemmas.List.Folds.{list_all-map}
use Rattle.std.proofs.lemmas.List.Sums.{sum_by-cons, AllPass-from_list_all, list_all-from_AllPass}
use Rattle.std.proofs.lemmas.List.Sorted.{list_any-IsPermutation, sum_by-IsPermutation, All-permutation}
use Rattle.std.specs.List.Sorted.{IsPermutation}
use mathlib.Core.Former.{Count}
use denote.Hole.Carrier.{shown}
use Rattle.p3_formula.specs.Folds.{fold_form, fold_forms}
use Rattle.p3_formula.specs.Forms.{State, truth, truth_layer, has_atoms, within_layer, nodes, nodes_layer}
use Rattle.p3_formula.specs.Next.{after}
use Rattle.p3_formula.specs.declared.form.Change.{Change}
use Rattle.p3_formula.specs.declared.form.Form.{Form, Row_of-Form, end_of-Form, more_of-Form, items-the_row-Form}
use Rattle.p3_formula.specs.declared.form.Form.TheOpen as layer
use Rattle.p3_formula.specs.declared.form.Form.TheBlock.{backs-Form, shown-the_row-Form-0, items_shown-the_row-Form-1}
use Rattle.p3_formula.specs.declared.form.Form.TheVariants.{True, False, Atom, Not, And, Or, Not', And', Or'}
use Rattle.p3_formula.proofs.FormLemmas.{list_any-map, truth-Not, truth-And, truth-Or, has_atoms-Not, has_atoms-And, has_atoms-Or, nodes-Not, nodes-And, nodes-Or}
use Rattle.p3_formula.proofs.NextLaws.{is_set-after, after-permutation}
use Rattle.p3_regress.specs.Regressed.{IsTrueBefore, IsUntouched, HasAtomsOfBoth, is_changed, growth, growth_layer, regressed, regressed_layer}
use Rattle.p3_regress.proofs.AtomAfter.{atom_after_truth, atom_after_same, atom_after_atoms, atom_after_nodes}

module _ (effects : List Change) where
  module _ (state : State) where
    mutual
      unfolding truth has_atoms regressed

      pub regressed_truth : (form : Form) → has_atoms (λ atom. nat_lt atom (length state)) form ≡ true → truth state (regressed effects form) ≡ truth (after state effects) form
      regressed_truth True h = refl
      regressed_truth False h = refl
      regressed_truth (Atom atom) h = atom_after_truth state atom effects ∙ sym (is_set-after state effects atom (grind (arith, nat_tests)))
      regressed_truth (Not' shape (more_of-Form part rest)) h = truth-Not state (regressed effects part) ∙ ap not (regressed_truth part h)
      regressed_truth (And' shape parts) h =
          let made = fold_forms (regressed_layer effects) parts in
          truth-And state made ∙ sym (list_all-map (λ part. part) (truth state) made) ∙ ap (list_all (λ part. part)) (regressed_truths parts h)
      regressed_truth (Or' shape parts) h =
          let made = fold_forms (regressed_layer effects) parts in
          truth-Or state made ∙ sym (list_any-map (λ part. part) (truth state) made) ∙ ap (list_any (λ part. part)) (regressed_truths parts h)

      regressed_truths : {n : Count} (parts : Row_of-Form n) → list_all (λ part. part) (fold_forms (within_layer (λ atom. nat_lt atom (length state))) parts) ≡ true
          → map (truth state) (fold_forms (regressed_layer effects) parts) ≡ fold_forms (truth_layer (after state effects)) parts
      regressed_truths end_of-Form h = refl
      regressed_truths (more_of-Form part rest) h =
          λ i. regressed_truth part (and_parts (has_atoms (λ atom. nat_lt atom (length state)) part) _ h).0 i
          ∷ regressed_truths rest (and_parts (has_atoms (λ atom. nat_lt atom (length state)) part) _ h).1 i

  mutual
    unfolding has_atoms regressed shown-the_row-Form-0 shown

    pub regressed_same : (form : Form) → has_atoms (λ atom. not (is_changed effects atom)) form ≡ true → regressed effects form ≡ form
    regressed_same True h = refl
    regressed_same False h = refl
    regressed_same (Atom atom) h = atom_after_same effects atom (not-true _ h)
    regressed_same (Not' shape (more_of-Form part rest)) h = ap Not (regressed_same part h) ∙ backs-Form (Not' shape (more_of-Form part rest))
    regressed_same (And' shape parts) h = ap And (all_same parts h ∙ sym (items_shown-the_row-Form-1 shape parts)) ∙ backs-Form (And' shape parts)
    regressed_same (Or' shape parts) h = ap Or (all_same parts h ∙ sym (items_shown-the_row-Form-1 shape parts)) ∙ backs-Form (Or' shape parts)

    all_same : {n : Count} (parts : Row_of-Form n) → list_all (λ part. part) (fold_forms (within_layer (λ atom. not (is_changed effects atom))) parts) ≡ true
        → fold_forms (regressed_layer effects) parts ≡ items-the_row-Form n parts
    all_same end_of-Form h = refl
    all_same (more_of-Form part rest) h =
        λ i. regressed_same part (and_parts (has_atoms (λ atom. not (is_changed effects atom)) part) _ h).0 i
        ∷ all_same rest (and_parts (has_atoms (λ atom. not (is_changed effects atom)) part) _ h).1 i

  module _ (allowed : ℕ → Bool) (all : list_all (λ change. has_atoms allowed change.cond) effects ≡ true) where
    mutual
      unfolding has_atoms regressed

      pub regressed_atoms : (form : Form) → has_atoms allowed form ≡ true → has_atoms allowed (regressed effects form) ≡ true
      regressed_atoms True h = refl
      regressed_atoms False h = refl
      regressed_atoms (Atom atom) h = atom_after_atoms allowed atom h effects all
      regressed_atoms (Not' shape (more_of-Form part rest)) h = has_atoms-Not allowed (regressed effects part) ∙ regressed_atoms part h
      regressed_atoms (And' shape parts) h = has_atoms-And allowed (fold_forms (regressed_layer effects) parts) ∙ all_atoms parts h
      regressed_atoms (Or' shape parts) h = has_atoms-Or allowed (fold_forms (regressed_layer effects) parts) ∙ all_atoms parts h

      all_atoms : {n : Count} (parts : Row_of-Form n) → list_all (λ part. part) (fold_forms (within_layer allowed) parts) ≡ true → list_all (has_atoms allowed) (fold_forms (regressed_layer effects) parts) ≡ true
      all_atoms end_of-Form h = refl
      all_atoms (more_of-Form part rest) h =
          and_from (has_atoms allowed (regressed effects part)) _
          (regressed_atoms part (and_parts (has_atoms allowed part) _ h).0)
          (all_atoms rest (and_parts (has_atoms allowed part) _ h).1)

  mutual
    unfolding nodes regressed growth

    pub regressed_nodes : (form : Form) → nodes (regressed effects form) ≤ nodes form + growth effects form
    regressed_nodes True = omega arith
    regressed_nodes False = omega arith
    regressed_nodes (Atom atom) = atom_after_nodes effects atom
    regressed_nodes (Not' shape (more_of-Form part rest)) = let h = nodes-Not (regressed effects part) in let k = regressed_nodes part in omega arith
    regressed_nodes (And' shape parts) = let h = nodes-And (fold_forms (regressed_layer effects) parts) in let k = all_nodes parts in omega arith
    regressed_nodes (Or' shape parts) = let h = nodes-Or (fold_forms (regressed_layer effects) parts) in let k = all_nodes parts in omega arith

    all_nodes : {n : Count} (parts : Row_of-Form n) → sum_by nodes (fold_forms (regressed_layer effects) parts) ≤ sum (fold_forms nodes_layer parts) + sum (fold_forms (growth_layer effects) parts)
    all_nodes end_of-Form = omega arith
    all_nodes (more_of-Form part rest) =
        let h = regressed_nodes part in
        let k = all_nodes rest in
        let p = sum_by-cons nodes (regressed effects part) (fold_forms (regressed_layer effects) rest) in
        let q = sum_by-cons (λ n. n) (nodes part) (fold_forms nodes_layer rest) in
        let r = sum_by-cons (λ n. n) (growth effects part) (fold_forms (growth_layer effects) rest) in
        omega arith

-- the same from changes in another order
module _ (effects sorted : List Change) (same : IsPermutation effects sorted) where
  alike : (atom : ℕ) → is_changed effects atom ≡ is_changed sorted atom
  alike atom = list_any-IsPermutation (λ change. change.atom == atom) effects sorted same

  growth_alike : (form : layer.Form-F ℕ) → growth_layer effects form ≡ growth_layer sorted form
  growth_alike layer.True = refl
  growth_alike layer.False = refl
  growth_alike (layer.Atom atom) = sym (sum_by-IsPermutation _ effects sorted same)
  growth_alike (layer.Not part) = refl
  growth_alike (layer.And parts) = refl
  growth_alike (layer.Or parts) = refl

  pub growth_same : (form : Form) → growth effects form ≡ growth sorted form
  unfolding growth
  growth_same form = λ i. fold_form (λ x. growth_alike x i) form

  pub sorted_truth : (form : Form) → IsTrueBefore effects form (regressed sorted form)
  sorted_truth form state below = regressed_truth sorted state form below ∙ sym (ap (λ s. truth s form) (after-permutation state effects sorted same))

  pub sorted_same : (form : Form) → IsUntouched effects form → regressed sorted form ≡ form
  sorted_same form untouched = regressed_same sorted form (sym (λ i. has_atoms (λ atom. not (alike atom i)) form) ∙ untouched)

  pub sorted_atoms : (form : Form) → HasAtomsOfBoth effects form (regressed sorted form)
  sorted_atoms form allowed h all =
      regressed_atoms sorted allowed
      (list_all-from_AllPass (λ change. has_atoms allowed change.cond) sorted (All-permutation (λ change. has_atoms allowed change.cond ≡ true) effects sorted same (AllPass-from_list_all (λ change. has_atoms allowed change.cond) effects all)))
      form h

  pub sorted_nodes : (form : Form) → nodes (regressed sorted form) ≤ nodes form + growth effects form
  sorted_nodes form = let h = regressed_nodes sorted form in let k = growth_same form in omega arith
