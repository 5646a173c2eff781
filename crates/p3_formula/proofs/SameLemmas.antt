-- Forms are the same exactly where they are equal.
use Rattle.std.proofs.Common.{◌≡◌, ◌∙◌, ℕ, Bool, true, false, ◌&&◌, List, [], ◌∷◌, length, map, refl, sym, ap, arith, true≢false}
use Rattle.std.proofs.lemmas.Bool.{and_parts, and_from, eq-eqb, eqb-true}
use mathlib.Core.Former.{Count}
use denote.Hole.Carrier.{hidden, shown}
use Rattle.p3_formula.specs.Folds.{fold_forms}
use Rattle.p3_formula.specs.Simplified.{is_value}
use Rattle.p3_formula.specs.declared.form.Form.{Form, Row_of-Form, end_of-Form, more_of-Form, items-the_row-Form, items_hidden-the_row-Form-1}
use Rattle.p3_formula.specs.declared.form.Form.TheBlock.{backs-Form, shown-the_row-Form-0, items_shown-the_row-Form-1, hidden-the_row-Form-0}
use Rattle.p3_formula.specs.declared.form.Form.TheVariants.{True, False, Atom, Not, And, Or, Not', And', Or'}
use Rattle.p3_formula.proofs.FormLemmas.{fold_parts}
use Rattle.p3_formula.specs.Same.{each_passes, is_atom, is_conjunction, is_disjunction, is_negation, same_form, same_layer}

-- ---- one equation for each kind of form

pub same_form-True : (other : Form) → same_form True other ≡ is_value true other
unfolding same_form
same_form-True other = refl

pub same_form-False : (other : Form) → same_form False other ≡ is_value false other
unfolding same_form
same_form-False other = refl

pub same_form-Atom : (atom : ℕ) (other : Form) → same_form (Atom atom) other ≡ is_atom atom other
unfolding same_form
same_form-Atom atom other = refl

pub same_form-Not : (part other : Form) → same_form (Not part) other ≡ is_negation (same_form part) other
unfolding same_form hidden-the_row-Form-0 hidden
same_form-Not part other = refl

pub same_form-And : (parts : List Form) (other : Form) → same_form (And parts) other ≡ is_conjunction (map same_form parts) other
unfolding same_form
same_form-And parts other = ap (λ tests. is_conjunction tests other) (fold_parts same_layer parts)

pub same_form-Or : (parts : List Form) (other : Form) → same_form (Or parts) other ≡ is_disjunction (map same_form parts) other
unfolding same_form
same_form-Or parts other = ap (λ tests. is_disjunction tests other) (fold_parts same_layer parts)

pub is_negation-Not : (test : Form → Bool) (part : Form) → is_negation test (Not part) ≡ test part
unfolding hidden-the_row-Form-0 hidden
is_negation-Not test part = refl

pub is_conjunction-And : (tests : List (Form → Bool)) (parts : List Form) → is_conjunction tests (And parts) ≡ each_passes tests parts
is_conjunction-And tests parts = ap (each_passes tests) (items_hidden-the_row-Form-1 parts)

pub is_disjunction-Or : (tests : List (Form → Bool)) (parts : List Form) → is_disjunction tests (Or parts) ≡ each_passes tests parts
is_disjunction-Or tests parts = ap (each_passes tests) (items_hidden-the_row-Form-1 parts)

pub ruleset same_laws = (same_form-True, same_form-False, same_form-Atom, same_form-Not, same_form-And, same_form-Or, is_negation-Not, is_conjunction-And, is_disjunction-Or)

-- ---- the same forms are equal

and_is : (shape : _) (parts : Row_of-Form _) → And (items-the_row-Form _ parts) ≡ And' shape parts
and_is shape parts = ap And (sym (items_shown-the_row-Form-1 shape parts)) ∙ backs-Form (And' shape parts)

or_is : (shape : _) (parts : Row_of-Form _) → Or (items-the_row-Form _ parts) ≡ Or' shape parts
or_is shape parts = ap Or (sym (items_shown-the_row-Form-1 shape parts)) ∙ backs-Form (Or' shape parts)

pub true_is : (other : Form) → is_value true other ≡ true → True ≡ other
true_is True h = refl
true_is False h = absurd (true≢false (sym h))
true_is (Atom atom) h = absurd (true≢false (sym h))
true_is (Not' shape part) h = absurd (true≢false (sym h))
true_is (And' shape parts) h = absurd (true≢false (sym h))
true_is (Or' shape parts) h = absurd (true≢false (sym h))

false_is : (other : Form) → is_value false other ≡ true → False ≡ other
false_is True h = absurd (true≢false (sym h))
false_is False h = refl
false_is (Atom atom) h = absurd (true≢false (sym h))
false_is (Not' shape part) h = absurd (true≢false (sym h))
false_is (And' shape parts) h = absurd (true≢false (sym h))
false_is (Or' shape parts) h = absurd (true≢false (sym h))

atom_is : (atom : ℕ) (other : Form) → is_atom atom other ≡ true → Atom atom ≡ other
atom_is atom True h = absurd (true≢false (sym h))
atom_is atom False h = absurd (true≢false (sym h))
atom_is atom (Atom other) h = ap Atom (eqb-true atom other h)
atom_is atom (Not' shape part) h = absurd (true≢false (sym h))
atom_is atom (And' shape parts) h = absurd (true≢false (sym h))
atom_is atom (Or' shape parts) h = absurd (true≢false (sym h))

negation_is : (part : Form) (test : Form → Bool) → ((other : Form) → test other ≡ true → part ≡ other) → (other : Form) → is_negation test other ≡ true → Not part ≡ other
unfolding shown-the_row-Form-0 shown
negation_is part test known True h = absurd (true≢false (sym h))
negation_is part test known False h = absurd (true≢false (sym h))
negation_is part test known (Atom atom) h = absurd (true≢false (sym h))
negation_is part test known (Not' shape (more_of-Form other rest)) h = ap Not (known other h) ∙ backs-Form (Not' shape (more_of-Form other rest))
negation_is part test known (And' shape parts) h = absurd (true≢false (sym h))
negation_is part test known (Or' shape parts) h = absurd (true≢false (sym h))

conjunction_is : (parts : List Form) (tests : List (Form → Bool)) → ((others : List Form) → each_passes tests others ≡ true → parts ≡ others) → (other : Form) → is_conjunction tests other ≡ true → And parts ≡ other
conjunction_is parts tests known True h = absurd (true≢false (sym h))
conjunction_is parts tests known False h = absurd (true≢false (sym h))
conjunction_is parts tests known (Atom atom) h = absurd (true≢false (sym h))
conjunction_is parts tests known (Not' shape part) h = absurd (true≢false (sym h))
conjunction_is parts tests known (And' shape others) h = ap And (known (items-the_row-Form _ others) h) ∙ and_is shape others
conjunction_is parts tests known (Or' shape others) h = absurd (true≢false (sym h))

disjunction_is : (parts : List Form) (tests : List (Form → Bool)) → ((others : List Form) → each_passes tests others ≡ true → parts ≡ others) → (other : Form) → is_disjunction tests other ≡ true → Or parts ≡ other
disjunction_is parts tests known True h = absurd (true≢false (sym h))
disjunction_is parts tests known False h = absurd (true≢false (sym h))
disjunction_is parts tests known (Atom atom) h = absurd (true≢false (sym h))
disjunction_is parts tests known (Not' shape part) h = absurd (true≢false (sym h))
disjunction_is parts tests known (And' shape others) h = absurd (true≢false (sym h))
disjunction_is parts tests known (Or' shape others) h = ap Or (known (items-the_row-Form _ others) h) ∙ or_is shape others

mutual
  unfolding same_form shown-the_row-Form-0 shown

  pub same_is : (form other : Form) → same_form form other ≡ true → form ≡ other
  same_is True other h = true_is other h
  same_is False other h = false_is other h
  same_is (Atom atom) other h = atom_is atom other h
  same_is (Not' shape (more_of-Form part rest)) other h = sym (backs-Form (Not' shape (more_of-Form part rest))) ∙ negation_is part (same_form part) (λ one e. same_is part one e) other h
  same_is (And' shape parts) other h = sym (and_is shape parts) ∙ conjunction_is (items-the_row-Form _ parts) (fold_forms same_layer parts) (λ others e. sames_are parts others e) other h
  same_is (Or' shape parts) other h = sym (or_is shape parts) ∙ disjunction_is (items-the_row-Form _ parts) (fold_forms same_layer parts) (λ others e. sames_are parts others e) other h

  sames_are : {n : Count} (parts : Row_of-Form n) (others : List Form) → each_passes (fold_forms same_layer parts) others ≡ true → items-the_row-Form n parts ≡ others
  sames_are end_of-Form [] h = refl
  sames_are end_of-Form (other ∷ others) h = absurd (true≢false (sym h))
  sames_are (more_of-Form part rest) [] h = absurd (true≢false (sym h))
  sames_are (more_of-Form part rest) (other ∷ others) h =
      let both = and_parts (same_form part other) _ h in
      λ i. same_is part other both.0 i ∷ sames_are rest others both.1 i

mutual
  unfolding same_form

  pub same_itself : (form : Form) → same_form form form ≡ true
  same_itself True = refl
  same_itself False = refl
  same_itself (Atom atom) = eq-eqb atom atom refl
  same_itself (Not' shape (more_of-Form part rest)) = same_itself part
  same_itself (And' shape parts) = sames_themselves parts
  same_itself (Or' shape parts) = sames_themselves parts

  sames_themselves : {n : Count} (parts : Row_of-Form n) → each_passes (fold_forms same_layer parts) (items-the_row-Form n parts) ≡ true
  sames_themselves end_of-Form = refl
  sames_themselves (more_of-Form part rest) = and_from (same_form part part) _ (same_itself part) (sames_themselves rest)

-- ---- forms that are taken apart

pub not_same : (form other part against : Form) → form ≡ Not part → other ≡ Not against → same_form part against ≡ same_form form other
not_same form other part against is is_other =
    sym (is_negation-Not (same_form part) against) ∙ sym (same_form-Not part (Not against)) ∙ (λ i. same_form (sym is i) (sym is_other i))

-- ---- forms in turn

pub lengths_differ : (tests : List (Form → Bool)) (others : List Form) → (length tests ≡ length others → ⊥) → false ≡ each_passes tests others
lengths_differ [] [] differ = absurd (differ refl)
lengths_differ [] (other ∷ others) differ = refl
lengths_differ (test ∷ tests) [] differ = refl
lengths_differ (test ∷ tests) (other ∷ others) differ = by (test other) (lengths_differ tests others (λ e. differ (omega (arith, e))))
  where
    by : (b : Bool) → false ≡ each_passes tests others → false ≡ (b && each_passes tests others)
    by true rest = rest
    by false rest = refl
