-- Equations of the definitions on forms, one for each kind of form.
use Rattle.std.proofs.Common.{◌≡◌, ◌∙◌, ℕ, ◌+◌, ◌<◌, nat_lt, Bool, true, false, not, ◌&&◌, ◌||◌, List, [], ◌∷◌, map, sum, sum_by, refl, sym, ap, arith}
use Rattle.std.proofs.lemmas.Bool.Decides.{nat_tests}
use Rattle.std.proofs.lemmas.List.Folds.{list_all-map}
use Rattle.std.proofs.Math.Bool.{and-true}
use Rattle.std.proofs.lemmas.Bool.{and_from}
use Rattle.std.proofs.lemmas.List.Sums.{sum-map, sum_by-cons}
use Rattle.std.specs.List.{list_any, list_all}
use mathlib.Core.Former.{Count}
use denote.Hole.Carrier.{hidden}
use Rattle.p3_formula.specs.Constructors.{both}
use Rattle.p3_formula.specs.Folds.{fold_form, fold_forms}
use Rattle.p3_formula.specs.Forms.{State, is_set, truth, truth_layer, has_atoms, within_layer, nodes, nodes_layer, IsBelow, AreBelow}
use Rattle.p3_formula.specs.declared.form.Form.{Form, Form-F, Row_of-Form, end_of-Form, more_of-Form, items-the_row-Form, items_hidden-the_row-Form-1}
use Rattle.p3_formula.specs.declared.form.Form.TheBlock.{hidden-the_row-Form-0, hidden-the_row-Form-1}
use Rattle.p3_formula.specs.declared.form.Form.TheVariants.{True, False, Atom, Not, And, Or}

module _ {A : Type 0} (step : Form-F A → A) where
  pub row_forms : {n : Count} (row : Row_of-Form n) → fold_forms step row ≡ map (fold_form step) (items-the_row-Form n row)
  row_forms end_of-Form = refl
  row_forms (more_of-Form part rest) = λ i. fold_form step part ∷ row_forms rest i

  pub fold_parts : (parts : List Form) → fold_forms step (hidden-the_row-Form-1 parts) ≡ map (fold_form step) parts
  fold_parts parts = row_forms (hidden-the_row-Form-1 parts) ∙ ap (map (fold_form step)) (items_hidden-the_row-Form-1 parts)

pub list_any-map : {A B : Type 0} (test : B → Bool) (f : A → B) (xs : List A) → list_any test (map f xs) ≡ list_any (λ x. test (f x)) xs
list_any-map test f [] = refl
list_any-map test f (x ∷ xs) = ap (λ rest. test (f x) || rest) (list_any-map test f xs)

module _ (state : State) where
  pub truth-True : truth state True ≡ true
  unfolding truth
  truth-True = refl

  pub truth-False : truth state False ≡ false
  unfolding truth
  truth-False = refl

  pub truth-Atom : (atom : ℕ) → truth state (Atom atom) ≡ is_set state atom
  unfolding truth
  truth-Atom atom = refl

  pub truth-Not : (part : Form) → truth state (Not part) ≡ not (truth state part)
  unfolding truth hidden-the_row-Form-0 hidden
  truth-Not part = refl

  pub truth-And : (parts : List Form) → truth state (And parts) ≡ list_all (truth state) parts
  unfolding truth
  truth-And parts = ap (list_all (λ part. part)) (fold_parts (truth_layer state) parts) ∙ list_all-map (λ part. part) (truth state) parts

  pub truth-Or : (parts : List Form) → truth state (Or parts) ≡ list_any (truth state) parts
  unfolding truth
  truth-Or parts = ap (list_any (λ part. part)) (fold_parts (truth_layer state) parts) ∙ list_any-map (λ part. part) (truth state) parts

module _ (allowed : ℕ → Bool) where
  pub has_atoms-True : has_atoms allowed True ≡ true
  unfolding has_atoms
  has_atoms-True = refl

  pub has_atoms-False : has_atoms allowed False ≡ true
  unfolding has_atoms
  has_atoms-False = refl

  pub has_atoms-Atom : (atom : ℕ) → has_atoms allowed (Atom atom) ≡ allowed atom
  unfolding has_atoms
  has_atoms-Atom atom = refl

  pub has_atoms-Not : (part : Form) → has_atoms allowed (Not part) ≡ has_atoms allowed part
  unfolding has_atoms hidden-the_row-Form-0 hidden
  has_atoms-Not part = refl

  pub has_atoms-And : (parts : List Form) → has_atoms allowed (And parts) ≡ list_all (has_atoms allowed) parts
  unfolding has_atoms
  has_atoms-And parts = ap (list_all (λ part. part)) (fold_parts (within_layer allowed) parts) ∙ list_all-map (λ part. part) (has_atoms allowed) parts

  pub has_atoms-Or : (parts : List Form) → has_atoms allowed (Or parts) ≡ list_all (has_atoms allowed) parts
  unfolding has_atoms
  has_atoms-Or parts = ap (list_all (λ part. part)) (fold_parts (within_layer allowed) parts) ∙ list_all-map (λ part. part) (has_atoms allowed) parts

pub nodes-True : nodes True ≡ 1
unfolding nodes
nodes-True = refl

pub nodes-False : nodes False ≡ 1
unfolding nodes
nodes-False = refl

pub nodes-Atom : (atom : ℕ) → nodes (Atom atom) ≡ 1
unfolding nodes
nodes-Atom atom = refl

pub nodes-Not : (part : Form) → nodes (Not part) ≡ 1 + nodes part
unfolding nodes hidden-the_row-Form-0 hidden
nodes-Not part = refl

pub nodes-And : (parts : List Form) → nodes (And parts) ≡ 1 + sum_by nodes parts
unfolding nodes
nodes-And parts = ap (λ looks. 1 + sum looks) (fold_parts nodes_layer parts) ∙ ap (λ n. 1 + n) (sum-map nodes parts)

pub nodes-Or : (parts : List Form) → nodes (Or parts) ≡ 1 + sum_by nodes parts
unfolding nodes
nodes-Or parts = ap (λ looks. 1 + sum looks) (fold_parts nodes_layer parts) ∙ ap (λ n. 1 + n) (sum-map nodes parts)

pub ruleset truth_laws = (truth-True, truth-False, truth-Atom, truth-Not, truth-And, truth-Or)

pub ruleset atom_laws = (has_atoms-True, has_atoms-False, has_atoms-Atom, has_atoms-Not, has_atoms-And, has_atoms-Or)

pub ruleset node_laws = (nodes-True, nodes-False, nodes-Atom, nodes-Not, nodes-And, nodes-Or)

-- ---- both forms

pub truth-both : (state : State) (first second : Form) → truth state (both first second) ≡ (truth state first && truth state second)
truth-both state first second = truth-And state (first ∷ second ∷ []) ∙ ap (λ b. truth state first && b) (and-true (truth state second))

pub has_atoms-both : (allowed : ℕ → Bool) (first second : Form) → has_atoms allowed first ≡ true → has_atoms allowed second ≡ true → has_atoms allowed (both first second) ≡ true
has_atoms-both allowed first second f s = has_atoms-And allowed (first ∷ second ∷ []) ∙ and_from (has_atoms allowed first) _ f (and_from (has_atoms allowed second) true s refl)

pub nodes-both : (first second : Form) → nodes (both first second) ≡ 1 + (nodes first + nodes second)
nodes-both first second =
    let h = nodes-And (first ∷ second ∷ []) in
    let p = sum_by-cons nodes first (second ∷ []) in
    let q = sum_by-cons nodes second [] in
    omega arith

-- what the atoms of a form are below, those of its parts are below
module _ (count : ℕ) (form : Form) where
  pub below-Atom : (atom : ℕ) → form ≡ Atom atom → IsBelow count form → atom < count
  below-Atom atom is below =
      let passes : nat_lt atom count ≡ true = sym (has_atoms-Atom (λ a. nat_lt a count) atom) ∙ sym (ap (has_atoms (λ a. nat_lt a count)) is) ∙ below in
      grind (arith, nat_tests)

  pub below-Not : (part : Form) → form ≡ Not part → IsBelow count form → IsBelow count part
  below-Not part is below = sym (has_atoms-Not (λ a. nat_lt a count) part) ∙ sym (ap (has_atoms (λ a. nat_lt a count)) is) ∙ below

  pub below-And : (parts : List Form) → form ≡ And parts → IsBelow count form → AreBelow count parts
  below-And parts is below = sym (has_atoms-And (λ a. nat_lt a count) parts) ∙ sym (ap (has_atoms (λ a. nat_lt a count)) is) ∙ below

  pub below-Or : (parts : List Form) → form ≡ Or parts → IsBelow count form → AreBelow count parts
  below-Or parts is below = sym (has_atoms-Or (λ a. nat_lt a count) parts) ∙ sym (ap (has_atoms (λ a. nat_lt a count)) is) ∙ below

pub ruleset below_laws = (below-Atom, below-Not, below-And, below-Or)
