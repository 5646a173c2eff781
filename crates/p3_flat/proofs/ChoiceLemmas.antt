-- The choices of which conditions hold: one of them is met.
use Rattle.std.proofs.Common.{◌≡◌, ◌∙◌, inl, inr, ℕ, suc, ◌+◌, ◌<◌, Bool, true, false, not, ◌&&◌, cond, List, [], ◌∷◌, ◌++◌, length, map, take, get_or, refl, sym, ap, subst, add-one}
use Rattle.std.specs.Prelude.{Option, Some, None}
use Rattle.std.specs.List.{All, filter, flat_map, list_all}
use Rattle.std.proofs.Math.Bool.{and-true}
use Rattle.std.proofs.lemmas.Bool.{and_parts, and_from}
use Rattle.std.proofs.lemmas.List.{append-nil, append_assoc, length-append, map-append}
use Rattle.std.proofs.lemmas.List.Concat.{flat_map-append}
use Rattle.std.proofs.lemmas.List.Elements.{All-cons, All-head, All-tail, filter-append}
use Rattle.std.proofs.lemmas.List.Folds.{list_all-append}
use Rattle.p3_formula.specs.Forms.{State, has_atoms, truth}
use Rattle.p3_formula.specs.declared.form.Form.{Form}
use Rattle.p3_flat.proofs.ItemLemmas.{front}
use Rattle.p3_flat.specs.declared.choices.Choice.{Choice}
use Rattle.p3_flat.specs.declared.literals.Literal.{Literal}
use Rattle.p3_flat.specs.Splitting.{AreChoices, AreHalves, IsExcluded, IsHalf, IsLiteral, IsPartOf, both_ways, conditions_in, forms_in, has_choice_atoms, is_met, listed, patterns, patterns_of, shown}

-- ---- parts of lists

pub part_append : (xs ys alls bs : List (List Bool)) → IsPartOf xs alls → IsPartOf ys bs → IsPartOf (xs ++ ys) (alls ++ bs)
part_append xs ys [] bs p q = subst (λ front. IsPartOf (front ++ ys) bs) (sym p) q
part_append xs ys (a ∷ alls) bs (inl skipped) q = inl (part_append xs ys alls bs skipped q)
part_append xs ys (a ∷ alls) bs (inr kept) q = inr (kept.0 ++ ys, ap (λ front. front ++ ys) kept.1, part_append kept.0 ys alls bs kept.2 q)

pub part_of_part : (xs ys zs : List (List Bool)) → IsPartOf xs ys → IsPartOf ys zs → IsPartOf xs zs
part_of_part xs ys [] p q = subst (IsPartOf xs) q p
part_of_part xs ys (z ∷ zs) p (inl skipped) = inl (part_of_part xs ys zs p skipped)
part_of_part xs ys (z ∷ zs) p (inr kept) = by (λ those below. part_of_part those kept.0 zs below kept.2) (subst (IsPartOf xs) kept.1 p)
  where
    by : ((those : List (List Bool)) → IsPartOf those kept.0 → IsPartOf those zs) → IsPartOf xs (z ∷ kept.0) → IsPartOf xs (z ∷ zs)
    by later (inl skipped) = inl (later xs skipped)
    by later (inr both) = inr (both.0, both.1, later both.0 both.2)

part_both_ways : (xs ys : List (List Bool)) → IsPartOf xs ys → IsPartOf (flat_map both_ways xs) (flat_map both_ways ys)
part_both_ways xs [] p = ap (flat_map both_ways) p
part_both_ways xs (y ∷ ys) (inl skipped) = inl (inl (part_both_ways xs ys skipped))
part_both_ways xs (y ∷ ys) (inr kept) =
    subst (λ list. IsPartOf (flat_map both_ways list) (flat_map both_ways (y ∷ ys))) (sym kept.1)
    (inr ((y ++ true ∷ []) ∷ flat_map both_ways kept.0, refl, inr (flat_map both_ways kept.0, refl, part_both_ways kept.0 ys kept.2)))

pub part_all : (P : List Bool → Type 0) (xs ys : List (List Bool)) → IsPartOf xs ys → All P ys → All P xs
part_all P xs [] p all = subst (All P) (sym p) all
part_all P xs (y ∷ ys) (inl skipped) all = part_all P xs ys skipped (All-tail P y ys all)
part_all P xs (y ∷ ys) (inr kept) all = subst (All P) (sym kept.1) (All-cons P y kept.0 (All-head P y ys all) (part_all P kept.0 ys kept.2 (All-tail P y ys all)))

-- ---- what is shown

shown-append : (state : State) (xs ys : List Choice) → shown state (xs ++ ys) ≡ shown state xs ++ shown state ys
shown-append state xs ys = ap patterns_of (filter-append (is_met state) xs ys) ∙ map-append (λ (choice : Choice). choice.pattern) (filter (is_met state) xs) (filter (is_met state) ys)

-- ---- one half

module _ (pre : Form) (choice : Choice) (form : Form) (holds : Bool) where
  pub half_excluded : IsExcluded pre (forms_in choice.parts) form → IsHalf pre choice form holds None
  half_excluded excluded = record {
    shows = λ state fits. by state fits (is_met state choice) refl;
    part = inl refl;
    atoms = λ allowed own more. refl;
  }
    where
      by : (state : State) → truth state pre ≡ true → (met : Bool) → is_met state choice ≡ met → [] ≡ cond (met && truth state form) ((choice.pattern ++ holds ∷ []) ∷ []) []
      by state fits true met = ap (λ b. cond b ((choice.pattern ++ holds ∷ []) ∷ []) []) (sym (excluded state fits met))
      by state fits false met = refl

  pub half_made : (made : Choice) → made.pattern ≡ choice.pattern ++ holds ∷ [] → forms_in made.parts ≡ forms_in choice.parts ++ form ∷ [] → IsHalf pre choice form holds (Some made)
  half_made made named parts = record {
    shows = λ state fits. let met : is_met state made ≡ (is_met state choice && truth state form) = ap (list_all (truth state)) parts ∙ list_all-append (truth state) (forms_in choice.parts) (form ∷ []) ∙ ap (λ b. is_met state choice && b) (and-true (truth state form)) in
        (λ i. patterns_of (cond (met i) (made ∷ []) [])) ∙ by (is_met state choice && truth state form);
    part = inr ([], (λ i. named i ∷ []), refl);
    atoms = λ allowed own more. and-true (has_choice_atoms allowed made) ∙ ap (list_all (has_atoms allowed)) parts ∙ list_all-append (has_atoms allowed) (forms_in choice.parts) (form ∷ [])
        ∙ and_from (list_all (has_atoms allowed) (forms_in choice.parts)) _ own (and-true (has_atoms allowed form) ∙ more);
  }
    where
      by : (met : Bool) → patterns_of (cond met (made ∷ []) []) ≡ cond met ((choice.pattern ++ holds ∷ []) ∷ []) []
      by true = λ i. named i ∷ []
      by false = refl

-- ---- both halves of each choice

module _ (pre : Form) (literal : Literal) (is : IsLiteral literal) (old new : List Choice) (choice : Choice) (without with : Option Choice)
    (are : AreHalves pre literal.holds old new) (first : IsHalf pre choice literal.fails false without) (second : IsHalf pre choice literal.holds true with) where
  halves-push : AreHalves pre literal.holds (old ++ choice ∷ []) ((new ++ listed without) ++ listed with)
  halves-push = record {
    shows = λ state fits.
        shown-append state (new ++ listed without) (listed with) ∙ (λ i. shown-append state new (listed without) i ++ shown state (listed with))
        ∙ (λ i. (are.shows state fits i ++ first.shows state fits i) ++ second.shows state fits i)
        ∙ (λ i. (map (λ pattern. pattern ++ truth state literal.holds ∷ []) (shown state old) ++ cond (is_met state choice && is.opposite state i) ((choice.pattern ++ false ∷ []) ∷ []) []) ++ cond (is_met state choice && truth state literal.holds) ((choice.pattern ++ true ∷ []) ∷ []) [])
        ∙ by state (is_met state choice) (truth state literal.holds) (map (λ pattern. pattern ++ truth state literal.holds ∷ []) (shown state old))
        ∙ sym (ap (map (λ pattern. pattern ++ truth state literal.holds ∷ [])) (shown-append state old (choice ∷ [])) ∙ map-append (λ pattern. pattern ++ truth state literal.holds ∷ []) (shown state old) (shown state (choice ∷ [])));
    part = subst (λ those. IsPartOf those (flat_map both_ways (patterns_of (old ++ choice ∷ [])))) (sym names)
        (subst (IsPartOf ((patterns_of new ++ patterns_of (listed without)) ++ patterns_of (listed with))) (sym ways)
        (part_append (patterns_of new ++ patterns_of (listed without)) (patterns_of (listed with)) (flat_map both_ways (patterns_of old) ++ ((choice.pattern ++ false ∷ []) ∷ [])) ((choice.pattern ++ true ∷ []) ∷ [])
        (part_append (patterns_of new) (patterns_of (listed without)) (flat_map both_ways (patterns_of old)) ((choice.pattern ++ false ∷ []) ∷ []) are.part first.part) second.part));
    atoms = λ allowed own more.
        let split = list_all-append (has_choice_atoms allowed) old (choice ∷ []) in
        let parts = and_parts (list_all (has_choice_atoms allowed) old) _ (sym split ∙ own) in
        let here = sym (and-true (has_choice_atoms allowed choice)) ∙ parts.1 in
        list_all-append (has_choice_atoms allowed) (new ++ listed without) (listed with)
        ∙ and_from (list_all (has_choice_atoms allowed) (new ++ listed without)) _
        (list_all-append (has_choice_atoms allowed) new (listed without) ∙ and_from (list_all (has_choice_atoms allowed) new) _ (are.atoms allowed parts.0 more) (first.atoms allowed here (is.atoms allowed more)))
        (second.atoms allowed here more);
  }
    where
      names : patterns_of ((new ++ listed without) ++ listed with) ≡ (patterns_of new ++ patterns_of (listed without)) ++ patterns_of (listed with)
      names = map-append (λ (one : Choice). one.pattern) (new ++ listed without) (listed with) ∙ ap (λ front. front ++ patterns_of (listed with)) (map-append (λ (one : Choice). one.pattern) new (listed without))

      ways : flat_map both_ways (patterns_of (old ++ choice ∷ [])) ≡ (flat_map both_ways (patterns_of old) ++ ((choice.pattern ++ false ∷ []) ∷ [])) ++ ((choice.pattern ++ true ∷ []) ∷ [])
      ways = ap (flat_map both_ways) (map-append (λ (one : Choice). one.pattern) old (choice ∷ [])) ∙ flat_map-append both_ways (patterns_of old) (choice.pattern ∷ [])
          ∙ sym (append_assoc (flat_map both_ways (patterns_of old)) ((choice.pattern ++ false ∷ []) ∷ []) ((choice.pattern ++ true ∷ []) ∷ []))

      by : (state : State) (met truth_here : Bool) (front : List (List Bool))
          → (front ++ cond (met && not truth_here) ((choice.pattern ++ false ∷ []) ∷ []) []) ++ cond (met && truth_here) ((choice.pattern ++ true ∷ []) ∷ []) []
          ≡ front ++ map (λ pattern. pattern ++ truth_here ∷ []) (patterns_of (cond met (choice ∷ []) []))
      by state true true front = ap (λ list. list ++ (choice.pattern ++ true ∷ []) ∷ []) (append-nil front)
      by state true false front = append-nil (front ++ (choice.pattern ++ false ∷ []) ∷ [])
      by state false truth_here front = append-nil (front ++ [])

-- the loop over the choices
pub next_halves : (pre : Form) (literal : Literal) → IsLiteral literal → (choices : List Choice) (i : ℕ) (choice : Choice) → i < length choices → choice ≡ get_or choices i choice
    → (new : List Choice) (without with : Option Choice) → AreHalves pre literal.holds (take i choices) new → IsHalf pre choice literal.fails false without → IsHalf pre choice literal.holds true with
    → AreHalves pre literal.holds (take (i + 1) choices) ((new ++ listed without) ++ listed with)
next_halves pre literal known choices i choice within is new without with are first second =
    subst (λ list. AreHalves pre literal.holds list ((new ++ listed without) ++ listed with)) (sym (front choices i choice within is))
    (halves-push pre literal known (take i choices) new choice without with are first second)

-- ---- one condition more

pub no_conditions : (pre : Form) → AreChoices pre [] (record { pattern = []; parts = [] } ∷ [])
no_conditions pre = record { shows = λ state fits. refl; part = inr ([], refl, refl); atoms = λ allowed own. refl }

choices-push : (pre : Form) (forms : List Form) (condition : Form) (old new : List Choice) → AreChoices pre forms old → AreHalves pre condition old new → AreChoices pre (forms ++ condition ∷ []) new
choices-push pre forms condition old new are halves = record {
  shows = λ state fits. halves.shows state fits ∙ ap (map (λ pattern. pattern ++ truth state condition ∷ [])) (are.shows state fits) ∙ (λ i. sym (map-append (truth state) forms (condition ∷ [])) i ∷ []);
  part = subst (λ n. IsPartOf (patterns_of new) (patterns n)) (sym longer)
      (part_of_part (patterns_of new) (flat_map both_ways (patterns_of old)) (flat_map both_ways (patterns (length forms))) halves.part (part_both_ways (patterns_of old) (patterns (length forms)) are.part));
  atoms = λ allowed own.
      let parts = and_parts (list_all (has_atoms allowed) forms) _ (sym (list_all-append (has_atoms allowed) forms (condition ∷ [])) ∙ own) in
      halves.atoms allowed (are.atoms allowed parts.0) (sym (and-true (has_atoms allowed condition)) ∙ parts.1);
}
  where
    longer : length (forms ++ condition ∷ []) ≡ suc (length forms)
    longer = length-append forms (condition ∷ []) ∙ add-one (length forms)

-- the loop over the literals
pub next_choices : (pre : Form) (literals : List Literal) (i : ℕ) (literal : Literal) → i < length literals → literal ≡ get_or literals i literal
    → (old new : List Choice) → AreChoices pre (conditions_in (take i literals)) old → AreHalves pre literal.holds old new → AreChoices pre (conditions_in (take (i + 1) literals)) new
next_choices pre literals i literal within is old new are halves =
    subst (λ list. AreChoices pre list new) (sym (ap conditions_in (front literals i literal within is) ∙ map-append (λ (one : Literal). one.holds) (take i literals) (literal ∷ [])))
    (choices-push pre (conditions_in (take i literals)) literal.holds old new are halves)

-- the loop that makes the literals
pub next_literal : (forms : List Form) (i : ℕ) (form : Form) (literals : List Literal) (literal : Literal) → i < length forms → form ≡ get_or forms i form
    → conditions_in literals ≡ take i forms → literal.holds ≡ form → conditions_in (literals ++ literal ∷ []) ≡ take (i + 1) forms
next_literal forms i form literals literal within is are holds =
    map-append (λ (one : Literal). one.holds) literals (literal ∷ []) ∙ (λ j. are j ++ holds j ∷ []) ∙ sym (front forms i form within is)
