-- Forms that are made of others: where they hold, what they read, and that they are tidy.
use Rattle.std.proofs.Common.{◌≡◌, ◌∙◌, ℕ, Bool, true, false, not, ◌||◌, if◌then◌else◌, List, [], ◌∷◌, ◌++◌, refl, sym, ap, subst, true≢false}
use Rattle.std.specs.List.{list_all}
use Rattle.std.proofs.Math.Bool.{and-true, and-false, or-true, or-false}
use Rattle.std.proofs.lemmas.Bool.{and_from, and_parts}
use Rattle.std.proofs.lemmas.List.Folds.{list_all-append, list_any-append}
use Rattle.p3_formula.specs.Forms.{truth, has_atoms}
use Rattle.p3_formula.specs.Simplified.{constant, is_value, negated, joined}
use Rattle.p3_formula.specs.Tidy.{look, is_constant, is_tidy, is_tidy_part}
use Rattle.p3_formula.specs.declared.form.Form.{Form, more_of-Form}
use Rattle.p3_formula.specs.declared.form.Form.TheVariants.{True, False, Atom, Not, Not', And', Or'}
use Rattle.p3_formula.proofs.AtomLaws.{joined_atoms}
use Rattle.p3_formula.proofs.FormLemmas.{truth-True, truth-False, has_atoms-True, has_atoms-False}
use Rattle.p3_formula.proofs.TidyLaws.{fits-Not, joined_tidy}
use Rattle.p3_formula.proofs.TruthLaws.{joined_truth}
use Rattle.p3_expansion.specs.Meanings.{each_or_some, both_or_one}
use Rattle.p3_expansion.specs.Expansions.{IsJoined, IsSound, junction_form}
use Rattle.p3_expansion.specs.declared.junction.Junction.{Junction}

-- ---- constants

pub constant_truth : (b : List Bool) (value : Bool) → truth b (constant value) ≡ value
constant_truth b true = truth-True b
constant_truth b false = truth-False b

pub constant_atoms : (allowed : ℕ → Bool) (value : Bool) → has_atoms allowed (constant value) ≡ true
constant_atoms allowed true = has_atoms-True allowed
constant_atoms allowed false = has_atoms-False allowed

pub constant_tidy : (value : Bool) → is_tidy (constant value) ≡ true
constant_tidy true = refl
constant_tidy false = refl

pub value-is : (form : Form) (value : Bool) → is_value value form ≡ true → form ≡ constant value
value-is True true h = refl
value-is True false h = absurd (true≢false (sym h))
value-is False true h = absurd (true≢false (sym h))
value-is False false h = refl
value-is (Atom atom) value h = absurd (true≢false (sym h))
value-is (Not' shape part) value h = absurd (true≢false (sym h))
value-is (And' shape parts) value h = absurd (true≢false (sym h))
value-is (Or' shape parts) value h = absurd (true≢false (sym h))

-- a tidy form that is no constant may be a part of another
pub part-fits : (form : Form) (every : Bool) → is_tidy form ≡ true → is_value every form ≡ false → is_value (not every) form ≡ false → is_tidy_part form ≡ true
part-fits True true h a b = absurd (true≢false a)
part-fits True false h a b = absurd (true≢false b)
part-fits False true h a b = absurd (true≢false b)
part-fits False false h a b = absurd (true≢false a)
part-fits (Atom atom) every h a b = h
part-fits (Not' shape part) every h a b = h
part-fits (And' shape parts) every h a b = h
part-fits (Or' shape parts) every h a b = h

-- ---- opposites

as-part : (form : Form) → is_tidy_part form ≡ true → is_tidy form ≡ true
as-part form h = ap (λ b. is_constant form || b) h ∙ or-true (is_constant form)

negation : (form : Form) → is_tidy_part form ≡ true → (look form).negation ≡ false → is_tidy (Not form) ≡ true
negation form fits positive = fits-Not form ∙ and_from (is_tidy_part form) (not (look form).negation) fits (ap not positive)

pub negated-tidy : (form : Form) → is_tidy form ≡ true → is_tidy (negated form) ≡ true
unfolding look
negated-tidy True h = refl
negated-tidy False h = refl
negated-tidy (Atom atom) h = negation (Atom atom) h refl
negated-tidy (Not' shape (more_of-Form part rest)) h = as-part part (and_parts (look part).fits _ h).0
negated-tidy (And' shape parts) h = negation (And' shape parts) h refl
negated-tidy (Or' shape parts) h = negation (Or' shape parts) h refl

-- ---- conjunctions, or else disjunctions

pub together_truth : (b : List Bool) (every : Bool) (parts : List Form) → truth b (joined every parts) ≡ each_or_some every (truth b) parts
together_truth b true parts = joined_truth b true parts
together_truth b false parts = joined_truth b false parts

pub each_or_some-append : {A : Type 0} (every : Bool) (test : A → Bool) (xs ys : List A) → each_or_some every test (xs ++ ys) ≡ both_or_one every (each_or_some every test xs) (each_or_some every test ys)
each_or_some-append true test xs ys = list_all-append test xs ys
each_or_some-append false test xs ys = list_any-append test xs ys

pub each_or_some-none : {A : Type 0} (every : Bool) (test : A → Bool) → each_or_some every test [] ≡ every
each_or_some-none true test = refl
each_or_some-none false test = refl

pub each_or_some-one : {A : Type 0} (every : Bool) (test : A → Bool) (x : A) → each_or_some every test (x ∷ []) ≡ test x
each_or_some-one true test x = and-true (test x)
each_or_some-one false test x = or-false (test x)

-- a part that does not matter, and one that decides
pub both_or_one-neutral : (every first : Bool) → both_or_one every first every ≡ first
both_or_one-neutral true first = and-true first
both_or_one-neutral false first = or-false first

pub both_or_one-begins : (every second : Bool) → both_or_one every every second ≡ second
both_or_one-begins true second = refl
both_or_one-begins false second = refl

pub both_or_one-decides : (every first : Bool) → both_or_one every first (not every) ≡ not every
both_or_one-decides true first = and-false first
both_or_one-decides false first = or-true first

pub both_or_one-decided : (every second : Bool) → both_or_one every (not every) second ≡ not every
both_or_one-decided true second = refl
both_or_one-decided false second = refl

-- ---- one part more

pub joined-neutral : (every : Bool) (old part : Form) → part ≡ constant every → IsJoined every old part old
joined-neutral every old part is = record {
  truth = λ b. sym (both_or_one-neutral every (truth b old)) ∙ ap (both_or_one every (truth b old)) (sym (ap (truth b) is ∙ constant_truth b every));
  atoms = λ allowed before other. before;
}

pub joined-begins : (every : Bool) (first second : Form) → first ≡ constant every → IsJoined every first second second
joined-begins every first second is = record {
  truth = λ b. sym (both_or_one-begins every (truth b second)) ∙ ap (λ value. both_or_one every value (truth b second)) (sym (ap (truth b) is ∙ constant_truth b every));
  atoms = λ allowed before other. other;
}

pub joined-cut : (every : Bool) (old part : Form) → part ≡ constant (not every) → IsJoined every old part (constant (not every))
joined-cut every old part is = record {
  truth = λ b. constant_truth b (not every) ∙ sym (both_or_one-decides every (truth b old)) ∙ ap (both_or_one every (truth b old)) (sym (ap (truth b) is ∙ constant_truth b (not every)));
  atoms = λ allowed before other. constant_atoms allowed (not every);
}

joined-past : (every : Bool) (part : Form) → IsJoined every (constant (not every)) part (constant (not every))
joined-past every part = record {
  truth = λ b. constant_truth b (not every) ∙ sym (both_or_one-decided every (truth b part)) ∙ ap (λ value. both_or_one every value (truth b part)) (sym (constant_truth b (not every)));
  atoms = λ allowed before other. before;
}

joined-pushed : (every : Bool) (parts : List Form) (part : Form) → IsJoined every (joined every parts) part (joined every (parts ++ part ∷ []))
joined-pushed every parts part = record {
  truth = λ b.
      together_truth b every (parts ++ part ∷ []) ∙ each_or_some-append every (truth b) parts (part ∷ [])
      ∙ (λ i. both_or_one every (sym (together_truth b every parts) i) (each_or_some-one every (truth b) part i));
  atoms = λ allowed before other.
      joined_atoms allowed every (parts ++ part ∷ []) ∙ list_all-append (has_atoms allowed) parts (part ∷ [])
      ∙ and_from (list_all (has_atoms allowed) parts) (list_all (has_atoms allowed) (part ∷ [])) (sym (joined_atoms allowed every parts) ∙ before) (and_from (has_atoms allowed part) true other refl);
}

pub joined-taken : (every cut : Bool) (old new : List Form) (part : Form) → new ≡ old ++ part ∷ [] → IsJoined every (if cut then constant (not every) else joined every old) part (if cut then constant (not every) else joined every new)
joined-taken every true old new part is = joined-past every part
joined-taken every false old new part is = subst (λ parts. IsJoined every (joined every old) part (joined every parts)) (sym is) (joined-pushed every old part)

pub sound-taken : (old new : List Form) (part : Form) → new ≡ old ++ part ∷ [] → list_all is_tidy_part old ≡ true → is_tidy_part part ≡ true → list_all is_tidy_part new ≡ true
sound-taken old new part is sound fits =
    ap (list_all is_tidy_part) is ∙ list_all-append is_tidy_part old (part ∷ []) ∙ and_from (list_all is_tidy_part old) (list_all is_tidy_part (part ∷ [])) sound (and_from (is_tidy_part part) true fits refl)

-- ---- all parts

pub junction-tidy : (junction : Junction) → IsSound junction → is_tidy (junction_form junction) ≡ true
junction-tidy junction sound = by junction.is_cut
  where
    by : (cut : Bool) → is_tidy (if cut then constant (not junction.every) else joined junction.every junction.parts) ≡ true
    by true = constant_tidy (not junction.every)
    by false = joined_tidy junction.every junction.parts sound

pub junction-none : (every : Bool) (junction : Junction) → junction.every ≡ every → junction.parts ≡ [] → junction.is_cut ≡ false → junction_form junction ≡ constant every
junction-none every junction kind none whole = (λ i. if whole i then constant (not (kind i)) else joined (kind i) (none i))

pub junction-cut : (junction : Junction) → junction.is_cut ≡ true → junction_form junction ≡ constant (not junction.every)
junction-cut junction cut = ap (λ cut. if cut then constant (not junction.every) else joined junction.every junction.parts) cut

-- ---- two parts

pub joined-pair : (every : Bool) (none one both : Junction) (first second : Form) → none.every ≡ every → none.parts ≡ [] → none.is_cut ≡ false → one.every ≡ none.every
    → IsJoined none.every (junction_form none) first (junction_form one) → IsJoined one.every (junction_form one) second (junction_form both) → IsJoined every first second (junction_form both)
joined-pair every none one both first second kind empty whole same a b = record {
  truth = λ s.
      let front : truth s (junction_form one) ≡ truth s first =
      a.truth s ∙ (λ i. both_or_one (kind i) ((ap (truth s) start ∙ constant_truth s every) i) (truth s first)) ∙ both_or_one-begins every (truth s first) in
      b.truth s ∙ (λ i. both_or_one ((same ∙ kind) i) (front i) (truth s second));
  atoms = λ allowed p q. b.atoms allowed (a.atoms allowed (ap (has_atoms allowed) start ∙ constant_atoms allowed every) p) q;
}
  where
    start : junction_form none ≡ constant every
    start = junction-none every none kind empty whole
