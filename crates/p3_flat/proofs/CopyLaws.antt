-- The copies of an action, one for each choice.
use Rattle.std.proofs.Common.{◌≡◌, ◌∙◌, ◌≢◌, inl, inr, ℕ, suc, zero, ◌+◌, ◌<◌, ◌==◌, Bool, true, false, not, ◌&&◌, ◌||◌, cond, List, [], ◌∷◌, ◌++◌, length, map, take, drop, get_or, refl, sym, ap, subst, arith, true≢false}
use Rattle.std.specs.Prelude.{Option, Some, None, bytes_eq, fold, IsTrue, if◌then◌else◌}
use Rattle.std.specs.List.{All, AllZip, filter, flat_map, list_all}
use Rattle.std.proofs.Math.Bool.{and-true}
use Rattle.std.proofs.lemmas.Bool.{and_parts, and_from, false_from_ne_true, not_from_false, or_from}
use Rattle.std.proofs.lemmas.List.{append-nil, append_assoc, append_cancel_left, length-append, take_at, drop_at}
use Rattle.std.proofs.lemmas.List.Elements.{All-nil, All-cons, All-head, All-tail}
use Rattle.std.proofs.lemmas.List.Folds.{list_all-append}
use Rattle.std.proofs.lemmas.Slice.Eq.{bytes_eq-Decides}
use Rattle.std.proofs.lemmas.Slice.Zip.{all_zipped_more}
use Rattle.p3_base.specs.Words.{Name, are_different, has_name}
use Rattle.p3_formula.specs.Forms.{State, has_atoms, truth}
use Rattle.p3_formula.specs.Next.{after}
use Rattle.p3_formula.specs.Simplified.{is_value}
use Rattle.p3_formula.specs.Targets.{has_action_atoms, has_change_atoms, lifted_number}
use Rattle.p3_formula.specs.Tidy.{is_tidy}
use Rattle.p3_formula.specs.Unconditional.{HasNoConditions}
use Rattle.p3_formula.specs.declared.form.Change.{Change}
use Rattle.p3_formula.specs.declared.form.Form.{Form}
use Rattle.p3_formula.specs.declared.form.Form.TheVariants.{True}
use Rattle.p3_formula.specs.declared.target.TargetAction.{TargetAction}
use Rattle.p3_flat.specs.declared.choices.Choice.{Choice}
use Rattle.p3_flat.specs.declared.placing.Placed.{Placed}
use Rattle.p3_flat.specs.declared.placing.Placing.{Placing}
use Rattle.p3_flat.specs.Conditions.{conditions, has_form, with_condition, with_form}
use Rattle.p3_flat.specs.Copies.{AreCopiesOf, HasOneCopy, IsCopyName, copy_named, digit_of, ending_of, fitting, names_of}
use Rattle.p3_flat.specs.Flattened.{AreFlattened}
use Rattle.p3_flat.specs.Splitting.{AreChoices, AreCopies, ArePlacedIn, HasPlace, IsCopy, IsPartOf, IsPlaced, both_ways, has_choice_atoms, is_added_in, is_met, patterns, patterns_of, settled}
use Rattle.p3_flat.proofs.ChoiceLemmas.{part_all}
use Rattle.p3_flat.proofs.ItemLemmas.{front, nil_no_cons, none_no_some}
use Rattle.p3_flat.proofs.NamingLemmas.{lifted_named}
use Rattle.p3_flat.proofs.SettlingLemmas.{settled_atoms, settled_free, settled_same}

-- ---- patterns differ

-- no two of the lists, at different places, are equal
abbrev AreApart : List (List Bool) → Type 0
AreApart [] = Unit {0}
AreApart (one ∷ others) = All (λ other. one ≢ other) others × AreApart others

same_front : (front other : List Bool) (last end : Bool) → front ++ last ∷ [] ≡ other ++ end ∷ [] → front ≡ other
same_front front other last end same =
    let lengths : length (front ++ last ∷ []) ≡ length (other ++ end ∷ []) = ap length same in
    let long : length front ≡ length other = omega (arith, lengths, length-append front (last ∷ []), length-append other (end ∷ [])) in
    sym (take_at front (last ∷ []) (length front) refl) ∙ ap (take (length front)) same ∙ take_at other (end ∷ []) (length front) (sym long)

ends_differ : (front : List Bool) → (front ++ false ∷ []) ≢ (front ++ true ∷ [])
ends_differ front same =
    let ends : false ∷ [] ≡ true ∷ [] = sym (drop_at front (false ∷ []) (length front) refl) ∙ ap (drop (length front)) same ∙ drop_at front (true ∷ []) (length front) refl in
    true≢false (sym (ap (λ list. get_or list 0 false) ends))

absent : (front : List Bool) (last : Bool) (others : List (List Bool)) → All (λ other. front ≢ other) others → All (λ other. (front ++ last ∷ []) ≢ other) (flat_map both_ways others)
absent front last [] apart = All-nil (λ other. (front ++ last ∷ []) ≢ other)
absent front last (one ∷ others) apart =
    let here : front ≢ one = All-head (λ other. front ≢ other) one others apart in
    let rest = absent front last others (All-tail (λ other. front ≢ other) one others apart) in
    All-cons (λ other. (front ++ last ∷ []) ≢ other) (one ++ false ∷ []) ((one ++ true ∷ []) ∷ flat_map both_ways others) (λ same. here (same_front front one last false same))
    (All-cons (λ other. (front ++ last ∷ []) ≢ other) (one ++ true ∷ []) (flat_map both_ways others) (λ same. here (same_front front one last true same)) rest)

apart_both_ways : (lists : List (List Bool)) → AreApart lists → AreApart (flat_map both_ways lists)
apart_both_ways [] apart = tt
apart_both_ways (one ∷ others) apart =
    (All-cons (λ other. (one ++ false ∷ []) ≢ other) (one ++ true ∷ []) (flat_map both_ways others) (ends_differ one) (absent one false others apart.0), (absent one true others apart.0, apart_both_ways others apart.1))

apart_patterns : (count : ℕ) → AreApart (patterns count)
apart_patterns zero = (All-nil (λ other. [] ≢ other), tt)
apart_patterns (suc count) = apart_both_ways (patterns count) (apart_patterns count)

apart_part : (those all : List (List Bool)) → IsPartOf those all → AreApart all → AreApart those
apart_part those [] p apart = subst AreApart (sym p) tt
apart_part those (one ∷ all) (inl skipped) apart = apart_part those all skipped apart.1
apart_part those (one ∷ all) (inr kept) apart = subst AreApart (sym kept.1) (part_all (λ other. one ≢ other) kept.0 all kept.2 apart.0, apart_part kept.0 all kept.2 apart.1)

-- ---- and are equally long

long_both_ways : (count : ℕ) (lists : List (List Bool)) → All (λ list. length list ≡ count) lists → All (λ list. length list ≡ suc count) (flat_map both_ways lists)
long_both_ways count [] long = All-nil (λ list. length list ≡ suc count)
long_both_ways count (one ∷ others) long =
    let here : length one ≡ count = All-head (λ list. length list ≡ count) one others long in
    let rest = long_both_ways count others (All-tail (λ list. length list ≡ count) one others long) in
    All-cons (λ list. length list ≡ suc count) (one ++ false ∷ []) ((one ++ true ∷ []) ∷ flat_map both_ways others) (omega (arith, here, length-append one (false ∷ [])))
    (All-cons (λ list. length list ≡ suc count) (one ++ true ∷ []) (flat_map both_ways others) (omega (arith, here, length-append one (true ∷ []))) rest)

long_patterns : (count : ℕ) → All (λ list. length list ≡ count) (patterns count)
long_patterns zero = All-cons (λ list. length list ≡ zero) [] [] refl (All-nil (λ list. length list ≡ zero))
long_patterns (suc count) = long_both_ways count (patterns count) (long_patterns count)

-- ---- names differ

digits_back : (pattern : List Bool) → map (λ digit. digit == 49) (map digit_of pattern) ≡ pattern
digits_back [] = refl
digits_back (true ∷ pattern) = ap (λ rest. true ∷ rest) (digits_back pattern)
digits_back (false ∷ pattern) = ap (λ rest. false ∷ rest) (digits_back pattern)

ending_back : (pattern : List Bool) → map (λ digit. digit == 49) (drop 1 (ending_of pattern)) ≡ pattern
ending_back [] = refl
ending_back (true ∷ pattern) = ap (λ rest. true ∷ rest) (digits_back pattern)
ending_back (false ∷ pattern) = ap (λ rest. false ∷ rest) (digits_back pattern)

same_pattern : (name : Name) (one other : List Bool) → copy_named name one ≡ copy_named name other → one ≡ other
same_pattern name one other same =
    sym (ending_back one) ∙ ap (λ ending. map (λ digit. digit == 49) (drop 1 ending)) (append_cancel_left name (ending_of one) (ending_of other) same) ∙ ending_back other

not_named : (name : Name) (one : List Bool) (others : List (List Bool)) → All (λ other. one ≢ other) others → has_name (map (copy_named name) others) (copy_named name one) ≡ false
not_named name one [] apart = refl
not_named name one (other ∷ others) apart =
    or_from (bytes_eq (copy_named name other) (copy_named name one)) _
    (false_from_ne_true _ (λ same. All-head (λ list. one ≢ list) other others apart (sym (same_pattern name other one ((bytes_eq-Decides (copy_named name other) (copy_named name one)).0 same)))))
    (not_named name one others (All-tail (λ list. one ≢ list) other others apart))

named_apart : (name : Name) (lists : List (List Bool)) → AreApart lists → are_different (map (copy_named name) lists) ≡ true
named_apart name [] apart = refl
named_apart name (one ∷ others) apart = and_from (not (has_name (map (copy_named name) others) (copy_named name one))) _ (not_from_false _ (not_named name one others apart.0)) (named_apart name others apart.1)

-- ---- the copies that fit

module _ (action : TargetAction) (changes : List Placed) where
  -- what is so of the copy for a choice is so of each
  all_copies : (P : TargetAction → Type 0) → ((choice : Choice) (copy : TargetAction) → IsCopy action changes choice copy → P copy) → (choices : List Choice) (copies : List TargetAction) → AreCopies action changes choices copies → All P copies
  all_copies P each [] [] are = All-nil P
  all_copies P each [] (copy ∷ copies) are = absurd are
  all_copies P each (choice ∷ choices) [] are = absurd are
  all_copies P each (choice ∷ choices) (copy ∷ copies) are = All-cons P copy copies (each choice copy are.0) (all_copies P each choices copies are.1)

  names_are : (choices : List Choice) (copies : List TargetAction) → AreCopies action changes choices copies → names_of copies ≡ map (copy_named action.name) (patterns_of choices)
  names_are [] [] are = refl
  names_are [] (copy ∷ copies) are = absurd are
  names_are (choice ∷ choices) [] are = absurd are
  names_are (choice ∷ choices) (copy ∷ copies) are = λ i. are.0.name i ∷ names_are choices copies are.1 i

  module _ (state : State) where
    -- where the action fits, a copy does where its choice is met
    fits_alike : truth state action.pre ≡ true → (choices : List Choice) (copies : List TargetAction) → AreCopies action changes choices copies → AreCopies action changes (filter (is_met state) choices) (fitting state copies)
    fits_alike fits [] [] are = tt
    fits_alike fits [] (copy ∷ copies) are = absurd are
    fits_alike fits (choice ∷ choices) [] are = absurd are
    fits_alike fits (choice ∷ choices) (copy ∷ copies) are =
        subst (λ b. AreCopies action changes (filter (is_met state) (choice ∷ choices)) (cond b (copy ∷ fitting state copies) (fitting state copies)))
        (sym (are.0.pre.holds state ∙ ap (λ b. b && is_met state choice) fits)) (by (is_met state choice) (fits_alike fits choices copies are.1))
      where
        by : (b : Bool) → AreCopies action changes (filter (is_met state) choices) (fitting state copies) → AreCopies action changes (cond b (choice ∷ filter (is_met state) choices) (filter (is_met state) choices)) (cond b (copy ∷ fitting state copies) (fitting state copies))
        by true rest = (are.0, rest)
        by false rest = rest

    -- elsewhere none does
    none_fits : truth state action.pre ≡ false → (choices : List Choice) (copies : List TargetAction) → AreCopies action changes choices copies → fitting state copies ≡ []
    none_fits fails [] [] are = refl
    none_fits fails [] (copy ∷ copies) are = absurd are
    none_fits fails (choice ∷ choices) [] are = absurd are
    none_fits fails (choice ∷ choices) (copy ∷ copies) are =
        ap (λ b. cond b (copy ∷ fitting state copies) (fitting state copies)) (are.0.pre.holds state ∙ ap (λ b. b && is_met state choice) fails) ∙ none_fits fails choices copies are.1

  pub record IsOnly (pattern : List Bool) (copies : List TargetAction) : Type 0 where
    pub choice : Choice
    pub copy : TargetAction
    pub only : copies ≡ copy ∷ []
    pub shows : choice.pattern ≡ pattern
    pub is : IsCopy action changes choice copy

  only_one : (pattern : List Bool) (choices : List Choice) (copies : List TargetAction) → AreCopies action changes choices copies → patterns_of choices ≡ pattern ∷ [] → IsOnly pattern copies
  only_one pattern [] copies are shows = absurd (nil_no_cons shows)
  only_one pattern (choice ∷ []) [] are shows = absurd are
  only_one pattern (choice ∷ []) (copy ∷ []) are shows = record { choice = choice; copy = copy; only = refl; shows = ap (λ lists. get_or lists 0 pattern) shows; is = are.0 }
  only_one pattern (choice ∷ []) (copy ∷ other ∷ copies) are shows = absurd are.1
  only_one pattern (choice ∷ other ∷ choices) copies are shows = absurd (nil_no_cons (sym (ap (drop 1) shows)))

-- ---- atoms

conditions_in : (allowed : ℕ → Bool) (effects : List Change) (seen : List Form) → list_all (has_atoms allowed) seen ≡ true → list_all (has_change_atoms allowed) effects ≡ true → list_all (has_atoms allowed) (fold with_condition seen effects) ≡ true
conditions_in allowed [] seen known within = known
conditions_in allowed (change ∷ effects) seen known within =
    let parts = and_parts (has_change_atoms allowed change) _ within in
    conditions_in allowed effects (with_form seen change.cond) (by (is_value true change.cond || has_form seen change.cond) (and_parts (allowed change.atom) _ parts.0).1) parts.1
  where
    by : (b : Bool) → has_atoms allowed change.cond ≡ true → list_all (has_atoms allowed) (if b then seen else (seen ++ change.cond ∷ [])) ≡ true
    by true own = known
    by false own = list_all-append (has_atoms allowed) seen (change.cond ∷ []) ∙ and_from (list_all (has_atoms allowed) seen) _ known (and-true (has_atoms allowed change.cond) ∙ own)

-- ---- an action with conditions

module _ (action : TargetAction) (placing : Placing) (choices : List Choice) (copies : List TargetAction)
    (placed : ArePlacedIn action.effects placing) (has_some : placing.conditions ≡ [] → ⊥)
    (made : AreChoices action.pre placing.conditions choices) (are : AreCopies action placing.changes choices copies) where
  one_fits : (state : State) → truth state action.pre ≡ true → HasOneCopy action copies state
  one_fits state fits =
      let one = only_one action placing.changes (map (truth state) placing.conditions) (filter (is_met state) choices) (fitting state copies) (fits_alike action placing.changes state fits choices copies are) (made.shows state fits) in
      record {
        copy = one.copy;
        only = one.only;
        named = one.is.name ∙ ap (copy_named action.name) (one.shows ∙ ap (map (truth state)) placed.forms);
        costs = one.is.cost;
        next = ap (after state) (one.is.effects ∙ ap (λ pattern. settled pattern placing.changes) one.shows) ∙ settled_same state placing.conditions action.effects placing.changes placed.changes;
      }

  choice_atoms : (allowed : ℕ → Bool) → has_action_atoms allowed action ≡ true → list_all (has_choice_atoms allowed) choices ≡ true
  choice_atoms allowed within =
      let parts = and_parts (has_atoms allowed action.pre) _ within in
      made.atoms allowed (ap (list_all (has_atoms allowed)) placed.forms ∙ conditions_in allowed action.effects [] refl parts.1)

  atoms_of_choices : (allowed : ℕ → Bool) → has_action_atoms allowed action ≡ true → (some_choices : List Choice) (some_copies : List TargetAction) → AreCopies action placing.changes some_choices some_copies → list_all (has_choice_atoms allowed) some_choices ≡ true → list_all (has_action_atoms allowed) some_copies ≡ true
  atoms_of_choices allowed within [] [] those own = refl
  atoms_of_choices allowed within [] (copy ∷ others) those own = absurd those
  atoms_of_choices allowed within (choice ∷ others) [] those own = absurd those
  atoms_of_choices allowed within (choice ∷ others) (copy ∷ rest) those own =
      let parts = and_parts (has_choice_atoms allowed choice) _ own in
      and_from (has_action_atoms allowed copy) _
      (and_from (has_atoms allowed copy.pre) _ (those.0.pre.atoms allowed (and_parts (has_atoms allowed action.pre) _ within).0 parts.0)
      (ap (list_all (has_change_atoms allowed)) those.0.effects
      ∙ settled_atoms allowed choice.pattern (is_added_in choice.pattern placing.changes) placing.conditions action.effects placing.changes placed.changes (and_parts (has_atoms allowed action.pre) _ within).1))
      (atoms_of_choices allowed within others rest those.1 parts.1)

  copy_atoms : (allowed : ℕ → Bool) → has_action_atoms allowed action ≡ true → list_all (has_action_atoms allowed) copies ≡ true
  copy_atoms allowed within = atoms_of_choices allowed within choices copies are (choice_atoms allowed within)

  names_of_choices : (some_choices : List Choice) (some_copies : List TargetAction) → AreCopies action placing.changes some_choices some_copies → All (λ list. length list ≡ length placing.conditions) (patterns_of some_choices)
      → All (λ (copy : TargetAction). IsCopyName (length (conditions action.effects)) action.name copy.name) some_copies
  names_of_choices [] [] those long = All-nil (λ (copy : TargetAction). IsCopyName (length (conditions action.effects)) action.name copy.name)
  names_of_choices [] (copy ∷ others) those long = absurd those
  names_of_choices (choice ∷ others) [] those long = absurd those
  names_of_choices (choice ∷ others) (copy ∷ rest) those long =
      All-cons (λ (one : TargetAction). IsCopyName (length (conditions action.effects)) action.name one.name) copy rest
      (record { pattern = choice.pattern; long = All-head (λ list. length list ≡ length placing.conditions) choice.pattern (patterns_of others) long ∙ ap length placed.forms; is = those.0.name })
      (names_of_choices others rest those.1 (All-tail (λ list. length list ≡ length placing.conditions) choice.pattern (patterns_of others) long))

  copy_names : All (λ (copy : TargetAction). IsCopyName (length (conditions action.effects)) action.name copy.name) copies
  copy_names = names_of_choices choices copies are (part_all (λ list. length list ≡ length placing.conditions) (patterns_of choices) (patterns (length placing.conditions)) made.part (long_patterns (length placing.conditions)))

  pub split_copies : AreCopiesOf action copies
  split_copies = record {
    one = one_fits;
    none = λ state fails. none_fits action placing.changes state fails choices copies are;
    stays = λ none. absurd (has_some (placed.forms ∙ none));
    unconditional = all_copies action placing.changes HasNoConditions (λ choice copy is. subst (λ effects. All (λ (change : Change). change.cond ≡ True) effects) (sym is.effects) (settled_free choice.pattern (is_added_in choice.pattern placing.changes) placing.changes)) choices copies are;
    tidy = λ known. all_copies action placing.changes (λ (copy : TargetAction). IsTrue (is_tidy copy.pre)) (λ choice copy is. is.pre.tidy) choices copies are;
    atoms = copy_atoms;
    counts = λ G. all_copies action placing.changes (λ (copy : TargetAction). lifted_number G copy.name ≡ lifted_number G action.name) (λ choice copy is. ap (lifted_number G) is.name ∙ lifted_named G action.name choice.pattern) choices copies are;
    names = copy_names;
    different = ap are_different (names_are action placing.changes choices copies are) ∙ named_apart action.name (patterns_of choices) (apart_part (patterns_of choices) (patterns (length placing.conditions)) made.part (apart_patterns (length placing.conditions)));
  }

-- ---- an action without conditions

never_placed : (forms : List Form) (effects : List Change) (made : List Placed) → forms ≡ [] → AllZip (IsPlaced forms) effects made → All (λ (change : Change). change.cond ≡ True) effects
never_placed forms [] [] none h = All-nil (λ (change : Change). change.cond ≡ True)
never_placed forms [] (one ∷ made) none h = absurd h
never_placed forms (change ∷ effects) [] none h = absurd h
never_placed forms (change ∷ effects) (one ∷ made) none h =
    All-cons (λ (other : Change). other.cond ≡ True) change effects (by one.place (subst (λ list. HasPlace list change.cond one.place) none h.0.place)) (never_placed forms effects made none h.1)
  where
    by : (place : Option ℕ) → HasPlace [] change.cond place → change.cond ≡ True
    by None is = is
    by (Some place) is = absurd (none_no_some change.cond is)

one_copy : (P : TargetAction → Type 0) (action : TargetAction) → P action → All P (action ∷ [])
one_copy P action is = All-cons P action [] is (All-nil P)

pub only_copy : (action : TargetAction) (placing : Placing) (copies : List TargetAction) → ArePlacedIn action.effects placing → placing.conditions ≡ [] → copies ≡ action ∷ [] → AreCopiesOf action copies
only_copy action placing copies placed none are = subst (AreCopiesOf action) (sym are) (record {
  one = λ state fits. record {
    copy = action;
    only = ap (λ b. cond b (action ∷ []) []) fits;
    named = sym (ap (λ forms. copy_named action.name (map (truth state) forms)) (sym placed.forms ∙ none) ∙ append-nil action.name);
    costs = refl;
    next = refl;
  };
  none = λ state fails. ap (λ b. cond b (action ∷ []) []) fails;
  stays = λ known. refl;
  unconditional = one_copy HasNoConditions action (never_placed placing.conditions action.effects placing.changes none placed.changes);
  tidy = λ known. one_copy (λ (copy : TargetAction). IsTrue (is_tidy copy.pre)) action known;
  atoms = λ allowed within. and-true (has_action_atoms allowed action) ∙ within;
  counts = λ G. one_copy (λ (copy : TargetAction). lifted_number G copy.name ≡ lifted_number G action.name) action refl;
  names = one_copy (λ (copy : TargetAction). IsCopyName (length (conditions action.effects)) action.name copy.name) action
      (record { pattern = []; long = sym (ap length (sym placed.forms ∙ none)); is = sym (append-nil action.name) });
  different = refl;
})

-- ---- the loops

pub next_copies : (action : TargetAction) (changes : List Placed) (choices : List Choice) (i : ℕ) (choice : Choice) → i < length choices → choice ≡ get_or choices i choice
    → (copies : List TargetAction) (copy : TargetAction) → AreCopies action changes (take i choices) copies → IsCopy action changes choice copy → AreCopies action changes (take (i + 1) choices) (copies ++ copy ∷ [])
next_copies action changes choices i choice within is copies copy are made =
    subst (λ list. AreCopies action changes list (copies ++ copy ∷ [])) (sym (front choices i choice within is))
    (all_zipped_more (IsCopy action changes) (take i choices) copies choice copy are made)

flattened-push : (actions made : List TargetAction) (action : TargetAction) (copies : List TargetAction) → AreFlattened actions made → AreCopiesOf action copies → AreFlattened (actions ++ action ∷ []) (made ++ copies)
flattened-push [] made action copies flat are = (copies, [], ap (λ front. front ++ copies) flat ∙ sym (append-nil copies), are, refl)
flattened-push (other ∷ actions) made action copies flat are =
    (flat.0, flat.1 ++ copies, ap (λ front. front ++ copies) flat.2 ∙ append_assoc flat.0 flat.1 copies, flat.3, flattened-push actions flat.1 action copies flat.4 are)

pub next_flattened : (actions : List TargetAction) (i : ℕ) (action : TargetAction) → i < length actions → action ≡ get_or actions i action
    → (made copies : List TargetAction) → AreFlattened (take i actions) made → AreCopiesOf action copies → AreFlattened (take (i + 1) actions) (made ++ copies)
next_flattened actions i action within is made copies flat are =
    subst (λ list. AreFlattened list (made ++ copies)) (sym (front actions i action within is))
    (flattened-push (take i actions) made action copies flat are)
