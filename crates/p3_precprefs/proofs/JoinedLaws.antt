-- The conjunction of two tidy forms: its truth, its atoms, and that it is tidy.
use Rattle.std.proofs.Common.{◌≡◌, ◌∙◌, ℕ, ◌≤◌, nat_le, Bool, true, false, ◌&&◌, List, [], ◌∷◌, ◌++◌, length, refl, sym, ap, arith, length-append, true≢false}
use Rattle.std.specs.Prelude.{if◌then◌else◌}
use Rattle.std.specs.List.{list_all}
use Rattle.std.proofs.Math.Bool.{and-true}
use Rattle.std.proofs.lemmas.Bool.{and_from, and_parts}
use Rattle.std.proofs.lemmas.Bool.Decides.{nat_tests}
use Rattle.std.proofs.lemmas.List.{length-map}
use Rattle.std.proofs.lemmas.List.Folds.{list_all-append, list_all-map}
use mathlib.Core.Former.{Count}
use Rattle.p3_formula.specs.Folds.{fold_forms}
use Rattle.p3_formula.specs.Forms.{State, truth, has_atoms}
use Rattle.p3_formula.specs.Simplified.{is_value, spread}
use Rattle.p3_formula.specs.Tidy.{is_tidy, is_tidy_part, look, look_layer, look_of_parts}
use Rattle.p3_formula.specs.declared.form.Form.{Form, Row_of-Form, items-the_row-Form}
use Rattle.p3_formula.specs.declared.form.Form.TheVariants.{True, False, Atom, Not', And, And', Or'}
use Rattle.p3_formula.proofs.FormLemmas.{truth-And, has_atoms-And, row_forms}
use Rattle.p3_formula.proofs.GuardLaws.{spread_atoms, spread_truth}
use Rattle.p3_formula.proofs.SettledTruth.{value_truth}
use Rattle.p3_formula.proofs.TidyLaws.{fits-And}
use Rattle.p3_precprefs.specs.Choices.{conjoined}

-- ---- the cases

-- what holds of each of the three, where it may be that, holds of the conjunction
module _ (P : Form → Type 0) (first second : Form) (one : is_value true first ≡ true → P second) (other : is_value true second ≡ true → P first)
    (both : is_value true first ≡ false → is_value true second ≡ false → P (And (spread first ++ spread second))) where
  pub by_cases : P (conjoined first second)
  by_cases = by (is_value true first) refl
    where
      rest : is_value true first ≡ false → (b : Bool) → is_value true second ≡ b → P (if b then first else And (spread first ++ spread second))
      rest f true s = other s
      rest f false s = both f s

      by : (b : Bool) → is_value true first ≡ b → P (if b then second else if is_value true second then first else And (spread first ++ spread second))
      by true f = one f
      by false f = rest f (is_value true second) refl

-- ---- truth and atoms

module _ (state : State) (first second : Form) where
  pub conjoined_truth : truth state (conjoined first second) ≡ (truth state first && truth state second)
  conjoined_truth = by_cases (λ form. truth state form ≡ (truth state first && truth state second)) first second
      (λ f. sym (ap (λ b. b && truth state second) (value_truth state true first f)))
      (λ s. sym (and-true (truth state first)) ∙ ap (λ b. truth state first && b) (sym (value_truth state true second s)))
      (λ f s. truth-And state (spread first ++ spread second) ∙ list_all-append (truth state) (spread first) (spread second) ∙ (λ i. spread_truth state first i && spread_truth state second i))

module _ (allowed : ℕ → Bool) (first second : Form) (has : has_atoms allowed first ≡ true) (too : has_atoms allowed second ≡ true) where
  pub conjoined_atoms : has_atoms allowed (conjoined first second) ≡ true
  conjoined_atoms = by_cases (λ form. has_atoms allowed form ≡ true) first second (λ f. too) (λ s. has)
      (λ f s. has_atoms-And allowed (spread first ++ spread second) ∙ list_all-append (has_atoms allowed) (spread first) (spread second)
      ∙ and_from (list_all (has_atoms allowed) (spread first)) _ (spread_atoms allowed first ∙ has) (spread_atoms allowed second ∙ too))

-- ---- tidiness

-- a form that may be a part of a conjunction
pub record IsPart (form : Form) : Type 0 where
  pub tidy : is_tidy form ≡ true
  pub possible : is_value false form ≡ false

one_tidy : (part : Form) → is_tidy_part part ≡ true → list_all is_tidy_part (part ∷ []) ≡ true
one_tidy part fits = and_from (is_tidy_part part) true fits refl

module _ {n : Count} (parts : Row_of-Form n) (fits : (look_of_parts (fold_forms look_layer parts)).fits ≡ true) where
  row_tests : (nat_le 2 (length (fold_forms look_layer parts)) ≡ true) × (list_all (λ part. part.fits) (fold_forms look_layer parts) ≡ true)
  row_tests = and_parts (nat_le 2 (length (fold_forms look_layer parts))) _ fits

  row_tidy : list_all is_tidy_part (items-the_row-Form n parts) ≡ true
  unfolding look
  row_tidy = sym (ap (list_all (λ part. part.fits)) (row_forms look_layer parts) ∙ list_all-map (λ part. part.fits) look (items-the_row-Form n parts)) ∙ row_tests.1

  row_some : 1 ≤ length (items-the_row-Form n parts)
  unfolding look
  row_some =
      let count = ap length (row_forms look_layer parts) ∙ length-map (items-the_row-Form n parts) look in
      let two = row_tests.0 in
      grind (arith, nat_tests)

-- the parts of a tidy form that is no constant are tidy parts, and there are some
spread_tidy : (form : Form) → IsPart form → is_value true form ≡ false → (list_all is_tidy_part (spread form) ≡ true) × (1 ≤ length (spread form))
unfolding look
spread_tidy True part other = absurd (true≢false other)
spread_tidy False part other = absurd (true≢false part.possible)
spread_tidy (Atom atom) part other = (one_tidy (Atom atom) part.tidy, omega arith)
spread_tidy (Not' shape form) part other = (one_tidy (Not' shape form) part.tidy, omega arith)
spread_tidy (And' shape parts) part other = (row_tidy parts part.tidy, row_some parts part.tidy)
spread_tidy (Or' shape parts) part other = (one_tidy (Or' shape parts) part.tidy, omega arith)

two_or_more : (n : ℕ) → 2 ≤ n → nat_le 2 n ≡ true
two_or_more n many = grind (arith, nat_tests)

and_possible : (parts : List Form) → is_value false (And parts) ≡ false
and_possible parts = refl

and_no_constant : (parts : List Form) → is_tidy_part (And parts) ≡ true → is_tidy (And parts) ≡ true
and_no_constant parts fits = fits

module _ (first second : Form) (is : IsPart first) (too : IsPart second) where
  pub conjoined_part : IsPart (conjoined first second)
  conjoined_part = by_cases IsPart first second (λ f. too) (λ s. is) (λ f s. both (spread_tidy first is f) (spread_tidy second too s))
    where
      both : (list_all is_tidy_part (spread first) ≡ true) × (1 ≤ length (spread first)) → (list_all is_tidy_part (spread second) ≡ true) × (1 ≤ length (spread second)) → IsPart (And (spread first ++ spread second))
      both some more =
          let long = length-append (spread first) (spread second) in
          let a = some.1 in let b = more.1 in
          let parts = spread first ++ spread second in
          record {
            tidy = and_no_constant parts (fits-And parts ∙ and_from (nat_le 2 (length parts)) _ (two_or_more (length parts) (omega (arith, long, a, b)))
                (list_all-append is_tidy_part (spread first) (spread second) ∙ and_from (list_all is_tidy_part (spread first)) _ some.0 more.0));
            possible = and_possible parts;
          }
