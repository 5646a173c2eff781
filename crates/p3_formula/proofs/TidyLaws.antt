-- Negated and joined forms are tidy.
use Rattle.std.proofs.Common.{◌≡◌, ◌∙◌, ℕ, suc, Bool, true, false, not, ◌&&◌, ◌||◌, nat_le, List, [], ◌∷◌, length, map, refl, ap, arith, true≢false}
use Rattle.std.proofs.Math.Bool.{or-true}
use Rattle.std.proofs.lemmas.Bool.{and_parts, and_from}
use Rattle.std.proofs.lemmas.Bool.Decides.{nat_tests}
use Rattle.std.specs.List.{list_all}
use Rattle.std.proofs.lemmas.List.{length-map}
use Rattle.std.proofs.lemmas.List.Folds.{list_all-map}
use denote.Hole.Carrier.{hidden}
use Rattle.p3_formula.specs.Tidy.{look, look_layer, look_of_parts, is_tidy, is_tidy_part, is_constant}
use Rattle.p3_formula.specs.Settled.{own_literal, denied_literal}
use Rattle.p3_formula.specs.Simplified.{negated, joined}
use Rattle.p3_formula.specs.declared.form.Form.{Form, more_of-Form}
use Rattle.p3_formula.specs.declared.form.Form.TheBlock.{hidden-the_row-Form-0}
use Rattle.p3_formula.specs.declared.form.Form.TheVariants.{True, False, Atom, Not, And, Or, Not', And', Or'}
use Rattle.p3_formula.specs.declared.literals.Literal.{Literal}
use Rattle.p3_formula.proofs.FormLemmas.{fold_parts}

look-And : (parts : List Form) → look (And parts) ≡ look_of_parts (map look parts)
unfolding look
look-And parts = ap look_of_parts (fold_parts look_layer parts)

look-Or : (parts : List Form) → look (Or parts) ≡ look_of_parts (map look parts)
unfolding look
look-Or parts = ap look_of_parts (fold_parts look_layer parts)

-- what a form is as a part
pub fits-Atom : (atom : ℕ) → is_tidy_part (Atom atom) ≡ true
unfolding look
fits-Atom atom = refl

pub fits-Not : (part : Form) → is_tidy_part (Not part) ≡ (is_tidy_part part && not (look part).negation)
unfolding look hidden-the_row-Form-0 hidden
fits-Not part = refl

fits_parts : (parts : List Form) → (look_of_parts (map look parts)).fits ≡ (nat_le 2 (length parts) && list_all is_tidy_part parts)
fits_parts parts = λ i. nat_le 2 (length-map parts look i) && list_all-map (λ part. part.fits) look parts i

pub fits-And : (parts : List Form) → is_tidy_part (And parts) ≡ (nat_le 2 (length parts) && list_all is_tidy_part parts)
fits-And parts = ap (λ l. l.fits) (look-And parts) ∙ fits_parts parts

pub fits-Or : (parts : List Form) → is_tidy_part (Or parts) ≡ (nat_le 2 (length parts) && list_all is_tidy_part parts)
fits-Or parts = ap (λ l. l.fits) (look-Or parts) ∙ fits_parts parts

-- a literal may be a part of a tidy form
none_listed : (one : Literal) → [] ≡ one ∷ [] → ⊥
none_listed one is = true≢false (ap by is) where
  by : List Literal → Bool
  by [] = true
  by (other ∷ more) = false

denied_fits : (part : Form) (one : Literal) → denied_literal part ≡ one ∷ [] → ((look part).fits && not (look part).negation) ≡ true
unfolding look
denied_fits True one is = absurd (none_listed one is)
denied_fits False one is = absurd (none_listed one is)
denied_fits (Atom atom) one is = refl
denied_fits (Not' shape part) one is = absurd (none_listed one is)
denied_fits (And' shape parts) one is = absurd (none_listed one is)
denied_fits (Or' shape parts) one is = absurd (none_listed one is)

pub one_fits : (form : Form) (one : Literal) → own_literal form ≡ one ∷ [] → is_tidy_part form ≡ true
unfolding look
one_fits True one is = absurd (none_listed one is)
one_fits False one is = absurd (none_listed one is)
one_fits (Atom atom) one is = refl
one_fits (Not' shape (more_of-Form part rest)) one is = denied_fits part one is
one_fits (And' shape parts) one is = absurd (none_listed one is)
one_fits (Or' shape parts) one is = absurd (none_listed one is)

two_or_more : (n : ℕ) → nat_le 2 (suc (suc n)) ≡ true
two_or_more n = grind (arith, nat_tests)

-- a tidy form that may be a part is tidy
pub as_part : (form : Form) → is_tidy_part form ≡ true → is_tidy form ≡ true
as_part form h = ap (λ b. is_constant form || b) h ∙ or-true (is_constant form)

pub ruleset simple_laws = (fits-Atom, fits-And, fits-Or, as_part)

-- a form that is no negation may be negated
negation : (form : Form) → is_tidy_part form ≡ true → (look form).negation ≡ false → is_tidy (Not form) ≡ true
unfolding look hidden-the_row-Form-0 hidden
negation form fits positive = and_from (look form).fits (not (look form).negation) fits (ap not positive)

pub negated_tidy : (form : Form) → is_tidy form ≡ true → is_tidy (negated form) ≡ true
unfolding look
negated_tidy True h = refl
negated_tidy False h = refl
negated_tidy (Atom atom) h = negation (Atom atom) h refl
negated_tidy (Not' shape (more_of-Form part rest)) h = as_part part (and_parts (look part).fits _ h).0
negated_tidy (And' shape parts) h = negation (And' shape parts) h refl
negated_tidy (Or' shape parts) h = negation (Or' shape parts) h refl

together_tidy : (parts : List Form) → nat_le 2 (length (map look parts)) ≡ true → list_all is_tidy_part parts ≡ true → (look_of_parts (map look parts)).fits ≡ true
together_tidy parts many h = and_from (nat_le 2 (length (map look parts))) _ many (list_all-map (λ part. part.fits) look parts ∙ h)

pub joined_tidy : (every : Bool) (parts : List Form) → list_all is_tidy_part parts ≡ true → is_tidy (joined every parts) ≡ true
joined_tidy true [] h = refl
joined_tidy false [] h = refl
joined_tidy every (part ∷ []) h = as_part part (and_parts (is_tidy_part part) _ h).0
joined_tidy true (part ∷ other ∷ parts) h = as_part (And (part ∷ other ∷ parts)) (ap (λ l. l.fits) (look-And (part ∷ other ∷ parts)) ∙ together_tidy (part ∷ other ∷ parts) (two_or_more (length (map look parts))) h)
joined_tidy false (part ∷ other ∷ parts) h = as_part (Or (part ∷ other ∷ parts)) (ap (λ l. l.fits) (look-Or (part ∷ other ∷ parts)) ∙ together_tidy (part ∷ other ∷ parts) (two_or_more (length (map look parts))) h)
