-- Truth of negated and joined forms.
use Rattle.std.proofs.Common.{◌≡◌, Bool, true, false, not, List, [], ◌∷◌, refl, sym}
use Rattle.std.specs.List.{list_any, list_all}
use Rattle.std.proofs.Math.Bool.{not-not, and-true, or-false}
use Rattle.p3_formula.specs.Forms.{State, truth}
use Rattle.p3_formula.specs.Simplified.{negated, joined}
use Rattle.p3_formula.specs.declared.form.Form.{Form, more_of-Form}
use Rattle.p3_formula.specs.declared.form.Form.TheVariants.{True, False, Atom, Not', And', Or'}
use Rattle.p3_formula.proofs.FormLemmas.{truth-Not, truth-And, truth-Or}

-- each passes, or else some
abbrev pub among : {A : Type 0} → Bool → (A → Bool) → List A → Bool
among true test xs = list_all test xs
among false test xs = list_any test xs

module _ (state : State) where
  pub negated_truth : (form : Form) → truth state (negated form) ≡ not (truth state form)
  unfolding truth
  negated_truth True = refl
  negated_truth False = refl
  negated_truth (Atom atom) = truth-Not state (Atom atom)
  negated_truth (Not' shape (more_of-Form part rest)) = sym (not-not (truth state part))
  negated_truth (And' shape parts) = truth-Not state (And' shape parts)
  negated_truth (Or' shape parts) = truth-Not state (Or' shape parts)

  pub joined_truth : (every : Bool) (parts : List Form) → truth state (joined every parts) ≡ among every (truth state) parts
  unfolding truth
  joined_truth true [] = refl
  joined_truth false [] = refl
  joined_truth true (part ∷ []) = sym (and-true (truth state part))
  joined_truth false (part ∷ []) = sym (or-false (truth state part))
  joined_truth true (part ∷ other ∷ parts) = truth-And state (part ∷ other ∷ parts)
  joined_truth false (part ∷ other ∷ parts) = truth-Or state (part ∷ other ∷ parts)
