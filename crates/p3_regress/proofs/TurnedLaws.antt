-- A form that the changes may not turn stays, and so the parts that they may turn tell of each turn.
use Rattle.std.proofs.Common.{◌≡◌, ◌∙◌, ℕ, ◌+◌, ◌≤◌, nat_lt, Bool, true, false, cond, not, ◌&&◌, ◌||◌, List, [], ◌∷◌, if◌then◌else◌, length, map, sum, sum_by, refl, sym, ap, subst, arith, true≢false}
use Rattle.std.specs.List.{list_any, list_all, filter}
use Rattle.std.specs.List.Sorted.{IsPermutation}
use Rattle.std.proofs.Math.Bool.{and-false, and-true, or-false, or-true, not-not}
use Rattle.std.proofs.lemmas.Bool.{and_parts, and_from, or_parts, or_from}
use Rattle.std.proofs.lemmas.Bool.Decides.{nat_tests}
use Rattle.std.proofs.lemmas.List.Sorted.{list_any-IsPermutation}
use Rattle.std.proofs.lemmas.List.Elements.{All-filter}
use Rattle.std.proofs.lemmas.List.Filters.{sum_by-filter_both}
use Rattle.std.proofs.lemmas.List.Sums.{sum-map, sum_by-cons, AllPass-from_list_all, list_all-from_AllPass}
use mathlib.Core.Former.{Count}
use denote.Hole.Carrier.{hidden}
use Rattle.p3_formula.specs.Constructors.{both}
use Rattle.p3_formula.specs.Folds.{fold_form, fold_forms}
use Rattle.p3_formula.specs.Forms.{State, is_set, truth, truth_layer, has_atoms, nodes}
use Rattle.p3_formula.specs.Next.{is_added, is_deleted, is_set_after, after}
use Rattle.p3_formula.specs.Simplified.{constant, joined}
use Rattle.p3_formula.specs.declared.form.Change.{Change}
use Rattle.p3_formula.specs.declared.form.Form.{Form, Row_of-Form, end_of-Form, more_of-Form, items-the_row-Form}
use Rattle.p3_formula.specs.declared.form.Form.TheBlock.{backs-Form, hidden-the_row-Form-0, items_shown-the_row-Form-1}
use Rattle.p3_formula.specs.declared.form.Form.TheVariants.{True, False, Atom, Not, And, Or, Not', And', Or'}
use Rattle.p3_formula.specs.declared.form.Form.TheOpen as layer
use Rattle.p3_formula.proofs.FormLemmas.{fold_parts, list_any-map, truth-And, truth-Or, has_atoms-And, has_atoms-Or, nodes-And, nodes-Or}
use Rattle.p3_formula.proofs.NextLaws.{is_set-after, is_set-beyond, after-permutation}
use Rattle.p3_regress.specs.Regressed.{HasAtomsOfBoth, IsTrueBefore, is_of, growth, growth_layer, regressed}
use Rattle.p3_regress.specs.Turned.{turns_layer, may_turn, turned, turned_parts, turned_whole, IsTurnBefore, IsNarrowed}
use Rattle.p3_regress.proofs.RegressedLaws.{growth_same, sorted_truth, sorted_nodes, sorted_atoms}
use Rattle.p3_regress.proofs.RegressedLemmas.{regressed-True, regressed-False, regressed-And, regressed-Or}

-- ---- one equation for each kind of form

module _ (effects : List Change) (up : Bool) where
  pub may_turn-True : may_turn effects up True ≡ false
  unfolding may_turn
  may_turn-True = refl

  pub may_turn-False : may_turn effects up False ≡ false
  unfolding may_turn
  may_turn-False = refl

  pub may_turn-Atom : (atom : ℕ) → may_turn effects up (Atom atom) ≡ list_any (is_of up atom) effects
  unfolding may_turn
  may_turn-Atom atom = refl

  pub may_turn-Not : (part : Form) → may_turn effects up (Not part) ≡ may_turn effects (not up) part
  unfolding may_turn hidden-the_row-Form-0 hidden
  may_turn-Not part = refl

  pub may_turn-And : (parts : List Form) → may_turn effects up (And parts) ≡ list_any (may_turn effects up) parts
  unfolding may_turn
  may_turn-And parts = ap (list_any (λ part. part up)) (fold_parts (turns_layer effects) parts) ∙ list_any-map (λ part. part up) (fold_form (turns_layer effects)) parts

  pub may_turn-Or : (parts : List Form) → may_turn effects up (Or parts) ≡ list_any (may_turn effects up) parts
  unfolding may_turn
  may_turn-Or parts = ap (list_any (λ part. part up)) (fold_parts (turns_layer effects) parts) ∙ list_any-map (λ part. part up) (fold_form (turns_layer effects)) parts

pub ruleset turn_laws = (may_turn-True, may_turn-False, may_turn-Atom, may_turn-Not, may_turn-And, may_turn-Or)

module _ (effects : List Change) where
  pub growth-And : (parts : List Form) → growth effects (And parts) ≡ sum_by (growth effects) parts
  unfolding growth
  growth-And parts = ap sum (fold_parts (growth_layer effects) parts) ∙ sum-map (growth effects) parts

  pub growth-Or : (parts : List Form) → growth effects (Or parts) ≡ sum_by (growth effects) parts
  unfolding growth
  growth-Or parts = ap sum (fold_parts (growth_layer effects) parts) ∙ sum-map (growth effects) parts

  pub growth-Not : (part : Form) → growth effects (Not part) ≡ growth effects part
  unfolding growth hidden-the_row-Form-0 hidden
  growth-Not part = refl

  pub growth-constant : (value : Bool) → growth effects (constant value) ≡ 0
  unfolding growth
  growth-constant true = refl
  growth-constant false = refl

  pub growth-both : (first second : Form) → growth effects (both first second) ≡ growth effects first + growth effects second
  growth-both first second =
      let h = growth-And (first ∷ second ∷ []) in
      let p = sum_by-cons (growth effects) first (second ∷ []) in
      let q = sum_by-cons (growth effects) second [] in
      omega arith

-- ---- what the changes may not turn stays

none_further : {A : Type 0} (test more : A → Bool) (xs : List A) → list_any test xs ≡ false → list_any (λ x. test x && more x) xs ≡ false
none_further test more [] h = refl
none_further test more (x ∷ xs) h = let parts = or_parts (test x) _ h in or_from (test x && more x) _ (ap (λ b. b && more x) parts.0) (none_further test more xs parts.1)

and_stays : (up a b c d : Bool) → (a ≡ not up → c ≡ not up) → (b ≡ not up → d ≡ not up) → (a && b) ≡ not up → (c && d) ≡ not up
and_stays true true b c d f g h = ap (λ b. c && b) (g h) ∙ and-false c
and_stays true false b c d f g h = ap (λ b. b && d) (f refl)
and_stays false a b c d f g h = let parts = and_parts a b h in and_from c d (f parts.0) (g parts.1)

or_stays : (up a b c d : Bool) → (a ≡ not up → c ≡ not up) → (b ≡ not up → d ≡ not up) → (a || b) ≡ not up → (c || d) ≡ not up
or_stays true a b c d f g h = let parts = or_parts a b h in or_from c d (f parts.0) (g parts.1)
or_stays false true b c d f g h = ap (λ b. b || d) (f refl)
or_stays false false b c d f g h = ap (λ b. c || b) (g h) ∙ or-true c

not_stays : (up a c : Bool) → (a ≡ not (not up) → c ≡ not (not up)) → not a ≡ not up → not c ≡ not up
not_stays up a c f h = ap not (f (sym (not-not a) ∙ ap not h)) ∙ not-not (not up)

module _ (effects : List Change) (state : State) where
  set_stays : (up : Bool) (atom : ℕ) → list_any (is_of up atom) effects ≡ false → is_set state atom ≡ not up → is_set_after state effects atom ≡ not up
  set_stays true atom none clear =
      let added : is_added state effects atom ≡ false = none_further (is_of true atom) (λ change. truth state change.cond) effects none in
      (λ i. added i || clear i && not (is_deleted state effects atom))
  set_stays false atom none there =
      let deleted : is_deleted state effects atom ≡ false = none_further (is_of false atom) (λ change. truth state change.cond) effects none in
      (λ i. is_added state effects atom || there i && not (deleted i)) ∙ or-true (is_added state effects atom)

  atom_stays : (up : Bool) (atom : ℕ) → list_any (is_of up atom) effects ≡ false → is_set state atom ≡ not up → is_set (after state effects) atom ≡ not up
  atom_stays up atom none now = by (nat_lt atom (length state)) refl where
    by : (b : Bool) → nat_lt atom (length state) ≡ b → is_set (after state effects) atom ≡ not up
    by true within = is_set-after state effects atom (grind (arith, nat_tests)) ∙ set_stays up atom none now
    by false beyond = is_set-beyond state effects atom (grind (arith, nat_tests)) ∙ now

  mutual
    unfolding truth may_turn

    pub stays : (form : Form) (up : Bool) → may_turn effects up form ≡ false → truth state form ≡ not up → truth (after state effects) form ≡ not up
    stays True up none now = now
    stays False up none now = now
    stays (Atom atom) up none now = atom_stays up atom none now
    stays (Not' shape (more_of-Form part rest)) up none now = not_stays up (truth state part) (truth (after state effects) part) (stays part (not up) none) now
    stays (And' shape parts) up none now = all_stay parts up none now
    stays (Or' shape parts) up none now = some_stay parts up none now

    all_stay : {n : Count} (parts : Row_of-Form n) (up : Bool) → list_any (λ part. part up) (fold_forms (turns_layer effects) parts) ≡ false
        → list_all (λ part. part) (fold_forms (truth_layer state) parts) ≡ not up → list_all (λ part. part) (fold_forms (truth_layer (after state effects)) parts) ≡ not up
    all_stay end_of-Form up none now = now
    all_stay (more_of-Form part rest) up none now =
        let parts = or_parts (may_turn effects up part) _ none in
        and_stays up (truth state part) _ (truth (after state effects) part) _ (stays part up parts.0) (all_stay rest up parts.1) now

    some_stay : {n : Count} (parts : Row_of-Form n) (up : Bool) → list_any (λ part. part up) (fold_forms (turns_layer effects) parts) ≡ false
        → list_any (λ part. part) (fold_forms (truth_layer state) parts) ≡ not up → list_any (λ part. part) (fold_forms (truth_layer (after state effects)) parts) ≡ not up
    some_stay end_of-Form up none now = now
    some_stay (more_of-Form part rest) up none now =
        let parts = or_parts (may_turn effects up part) _ none in
        or_stays up (truth state part) _ (truth (after state effects) part) _ (stays part up parts.0) (some_stay rest up parts.1) now

-- ---- the parts that the changes may turn

all_with : (test : Form → Bool) (b : Bool) (part : Form) (kept parts : List Form) → (b ≡ false → test part ≡ true) → list_all test kept ≡ list_all test parts
    → list_all test (cond b (part ∷ kept) kept) ≡ (test part && list_all test parts)
all_with test true part kept parts still rest = ap (λ b. test part && b) rest
all_with test false part kept parts still rest = rest ∙ sym (ap (λ b. b && list_all test parts) (still refl))

any_with : (test : Form → Bool) (b : Bool) (part : Form) (kept parts : List Form) → (b ≡ false → test part ≡ false) → list_any test kept ≡ list_any test parts
    → list_any test (cond b (part ∷ kept) kept) ≡ (test part || list_any test parts)
any_with test true part kept parts still rest = ap (λ b. test part || b) rest
any_with test false part kept parts still rest = rest ∙ sym (ap (λ b. b || list_any test parts) (still refl))

fewer_with : (test : Form → Bool) (b : Bool) (part : Form) (kept : List Form) → test part ≡ false → list_any test kept ≡ false → list_any test (cond b (part ∷ kept) kept) ≡ false
fewer_with test true part kept h rest = or_from (test part) _ h rest
fewer_with test false part kept h rest = rest

module _ (pick : Form → Bool) where
  none_of_fewer : (test : Form → Bool) (parts : List Form) → list_any test parts ≡ false → list_any test (filter pick parts) ≡ false
  none_of_fewer test [] h = refl
  none_of_fewer test (part ∷ parts) h = let both = or_parts (test part) _ h in fewer_with test (pick part) part (filter pick parts) both.0 (none_of_fewer test parts both.1)

  all_of_fewer : (test : Form → Bool) (parts : List Form) → list_all test parts ≡ true → list_all test (filter pick parts) ≡ true
  all_of_fewer test parts h = list_all-from_AllPass test (filter pick parts) (All-filter pick (λ part. test part ≡ true) parts (AllPass-from_list_all test parts h))

  less : (size : Form → ℕ) (parts : List Form) → sum_by size (filter pick parts) ≤ sum_by size parts
  less size parts = let h = sum_by-filter_both pick (λ part. not (pick part)) (λ part. refl) size parts in omega arith

pub some_node : (form : Form) → 1 ≤ nodes form
unfolding nodes
some_node True = omega arith
some_node False = omega arith
some_node (Atom atom) = omega arith
some_node (Not' shape part) = omega arith
some_node (And' shape parts) = omega arith
some_node (Or' shape parts) = omega arith

truth-constant : (state : State) (value : Bool) → truth state (constant value) ≡ value
unfolding truth
truth-constant state true = refl
truth-constant state false = refl

constant_atoms : (allowed : ℕ → Bool) (value : Bool) → has_atoms allowed (constant value) ≡ true
unfolding has_atoms
constant_atoms allowed true = refl
constant_atoms allowed false = refl

constant_nodes : (value : Bool) → nodes (constant value) ≡ 1
unfolding nodes
constant_nodes true = refl
constant_nodes false = refl

module _ (effects : List Change) where
  module _ (state : State) where
    all_told : (parts : List Form) → list_all (truth state) parts ≡ true → list_all (truth (after state effects)) (filter (may_turn effects false) parts) ≡ list_all (truth (after state effects)) parts
    all_told [] now = refl
    all_told (part ∷ parts) now =
        let both = and_parts (truth state part) _ now in
        all_with (truth (after state effects)) (may_turn effects false part) part (filter (may_turn effects false) parts) parts (λ none. stays effects state part false none both.0) (all_told parts both.1)

    some_told : (parts : List Form) → list_any (truth state) parts ≡ false → list_any (truth (after state effects)) (filter (may_turn effects true) parts) ≡ list_any (truth (after state effects)) parts
    some_told [] now = refl
    some_told (part ∷ parts) now =
        let both = or_parts (truth state part) _ now in
        any_with (truth (after state effects)) (may_turn effects true part) part (filter (may_turn effects true) parts) parts (λ none. stays effects state part true none both.0) (some_told parts both.1)

  pub narrowed_same : (up : Bool) (form : Form) → may_turn effects up form ≡ true → IsNarrowed up effects form form
  narrowed_same up form may = record {
    turns = λ state now. refl;
    only = λ state h. h;
    still = λ none. absurd (true≢false (sym may ∙ none));
    atoms = λ allowed h. h;
    size = omega arith;
    growth = omega arith;
  }

  pub narrowed_still : (up : Bool) (form : Form) → may_turn effects up form ≡ false → IsNarrowed up effects form (constant (not up))
  narrowed_still up form none = record {
    turns = λ state now. truth-constant (after state effects) (not up) ∙ sym (stays effects state form up none now);
    only = λ state h. truth-constant (after state effects) (not up);
    still = λ same. refl;
    atoms = λ allowed h. constant_atoms allowed (not up);
    size = let h = some_node form in let k = constant_nodes (not up) in omega arith;
    growth = let h = growth-constant effects (not up) in omega arith;
  }

  pub narrowed_and : (parts : List Form) → may_turn effects false (And parts) ≡ true → IsNarrowed false effects (And parts) (And (filter (may_turn effects false) parts))
  narrowed_and parts may = record {
    turns = λ state now.
        truth-And (after state effects) (filter (may_turn effects false) parts) ∙ all_told state parts (sym (truth-And state parts) ∙ now) ∙ sym (truth-And (after state effects) parts);
    only = λ state h.
        truth-And (after state effects) (filter (may_turn effects false) parts)
        ∙ all_of_fewer (may_turn effects false) (truth (after state effects)) parts (sym (truth-And (after state effects) parts) ∙ h);
    still = λ none. absurd (true≢false (sym may ∙ none));
    atoms = λ allowed h.
        has_atoms-And allowed (filter (may_turn effects false) parts) ∙ all_of_fewer (may_turn effects false) (has_atoms allowed) parts (sym (has_atoms-And allowed parts) ∙ h);
    size = let h = nodes-And parts in let k = nodes-And (filter (may_turn effects false) parts) in let l = less (may_turn effects false) nodes parts in omega arith;
    growth = let h = growth-And effects parts in let k = growth-And effects (filter (may_turn effects false) parts) in let l = less (may_turn effects false) (growth effects) parts in omega arith;
  }

  pub narrowed_or : (parts : List Form) → may_turn effects true (Or parts) ≡ true → IsNarrowed true effects (Or parts) (Or (filter (may_turn effects true) parts))
  narrowed_or parts may = record {
    turns = λ state now.
        truth-Or (after state effects) (filter (may_turn effects true) parts) ∙ some_told state parts (sym (truth-Or state parts) ∙ now) ∙ sym (truth-Or (after state effects) parts);
    only = λ state h.
        truth-Or (after state effects) (filter (may_turn effects true) parts)
        ∙ none_of_fewer (may_turn effects true) (truth (after state effects)) parts (sym (truth-Or (after state effects) parts) ∙ h);
    still = λ none. absurd (true≢false (sym may ∙ none));
    atoms = λ allowed h.
        has_atoms-Or allowed (filter (may_turn effects true) parts) ∙ all_of_fewer (may_turn effects true) (has_atoms allowed) parts (sym (has_atoms-Or allowed parts) ∙ h);
    size = let h = nodes-Or parts in let k = nodes-Or (filter (may_turn effects true) parts) in let l = less (may_turn effects true) nodes parts in omega arith;
    growth = let h = growth-Or effects parts in let k = growth-Or effects (filter (may_turn effects true) parts) in let l = less (may_turn effects true) (growth effects) parts in omega arith;
  }

-- ---- the same from changes in another order

module _ (effects sorted : List Change) (same : IsPermutation effects sorted) where
  turns_alike : (form : layer.Form-F (Bool → Bool)) → turns_layer effects form ≡ turns_layer sorted form
  turns_alike layer.True = refl
  turns_alike layer.False = refl
  turns_alike (layer.Atom atom) = λ i up. list_any-IsPermutation (is_of up atom) effects sorted same i
  turns_alike (layer.Not part) = refl
  turns_alike (layer.And parts) = refl
  turns_alike (layer.Or parts) = refl

  pub may_turn_same : (up : Bool) (form : Form) → may_turn effects up form ≡ may_turn sorted up form
  unfolding may_turn
  may_turn_same up form = λ i. fold_form (λ x. turns_alike x i) form up

  pub sorted_narrowed : (up : Bool) (form part : Form) → IsNarrowed up sorted form part → IsNarrowed up effects form part
  sorted_narrowed up form part narrowed = record {
    turns = subst (λ (next : State → State). (state : State) → truth state form ≡ not up → truth (next state) part ≡ truth (next state) form) (λ i state. reached state i) narrowed.turns;
    only = subst (λ (next : State → State). (state : State) → truth (next state) form ≡ not up → truth (next state) part ≡ not up) (λ i state. reached state i) narrowed.only;
    still = λ none. narrowed.still (sym (may_turn_same up form) ∙ none);
    atoms = narrowed.atoms;
    size = narrowed.size;
    growth = let h = growth_same effects sorted same part in let k = growth_same effects sorted same form in let g = narrowed.growth in omega arith;
  } where
    reached : (state : State) → after state sorted ≡ after state effects
    reached state = sym (after-permutation state effects sorted same)

-- the form before the changes in place of the part that is left
pub turn_before : (up : Bool) (effects : List Change) (form part before : Form) → IsNarrowed up effects form part → IsTrueBefore effects part before → IsTurnBefore up effects form before
turn_before up effects form part before narrowed truly = record {
  turns = λ state below now. truly state (narrowed.atoms _ below) ∙ narrowed.turns state now;
  only = λ state below h. truly state (narrowed.atoms _ below) ∙ narrowed.only state h;
}

-- ---- what is made of a form

and_is : (shape : _) (parts : Row_of-Form _) → And (items-the_row-Form _ parts) ≡ And' shape parts
and_is shape parts = ap And (sym (items_shown-the_row-Form-1 shape parts)) ∙ backs-Form (And' shape parts)

or_is : (shape : _) (parts : Row_of-Form _) → Or (items-the_row-Form _ parts) ≡ Or' shape parts
or_is shape parts = ap Or (sym (items_shown-the_row-Form-1 shape parts)) ∙ backs-Form (Or' shape parts)

-- a part of the form tells of each turn, and it is made by its regression
record IsCutTo (changes : List Change) (up : Bool) (form made : Form) : Type 0 where
  part : Form
  narrowed : IsNarrowed up changes form part
  is : made ≡ regressed changes part

regressed-constant : (changes : List Change) (value : Bool) → regressed changes (constant value) ≡ constant value
regressed-constant changes true = regressed-True changes
regressed-constant changes false = regressed-False changes

module _ (changes : List Change) where
  whole_cut : (up : Bool) (form : Form) → IsCutTo changes up form (turned_whole changes up form)
  whole_cut up form = by (may_turn changes up form) refl where
    by : (b : Bool) → may_turn changes up form ≡ b → IsCutTo changes up form (if b then regressed changes form else constant (not up))
    by true may = record { part = form; narrowed = narrowed_same changes up form may; is = refl }
    by false none = record { part = constant (not up); narrowed = narrowed_still changes up form none; is = sym (regressed-constant changes (not up)) }

  none_left : (test : Form → Bool) (parts : List Form) → filter test parts ≡ [] → list_any test parts ≡ false
  none_left test [] is = refl
  none_left test (part ∷ parts) is = by (test part) refl is (none_left test parts) where
    by : (b : Bool) → test part ≡ b → cond b (part ∷ filter test parts) (filter test parts) ≡ [] → (filter test parts ≡ [] → list_any test parts ≡ false) → (test part || list_any test parts) ≡ false
    by true e is rest = absurd (cc)
    by false e is rest = or_from (test part) _ e (rest is)

  some_left : (test : Form → Bool) (parts : List Form) (first : Form) (rest : List Form) → filter test parts ≡ first ∷ rest → list_any test parts ≡ true
  some_left test [] first rest is = absurd (cc)
  some_left test (part ∷ parts) first rest is = by (test part) refl is (some_left test parts first rest) where
    by : (b : Bool) → test part ≡ b → cond b (part ∷ filter test parts) (filter test parts) ≡ first ∷ rest → (filter test parts ≡ first ∷ rest → list_any test parts ≡ true) → (test part || list_any test parts) ≡ true
    by true e is later = ap (λ b. b || list_any test parts) e
    by false e is later = ap (λ b. test part || b) (later is) ∙ or-true (test part)

  -- one part alone is that part
  one_and : (up : Bool) (form part : Form) → may_turn changes up form ≡ true → IsNarrowed up changes form (And (part ∷ [])) → IsNarrowed up changes form part
  one_and up form part may all = record {
    turns = λ state now. sym (truth-And (after state changes) (part ∷ []) ∙ and-true (truth (after state changes) part)) ∙ all.turns state now;
    only = λ state h. sym (truth-And (after state changes) (part ∷ []) ∙ and-true (truth (after state changes) part)) ∙ all.only state h;
    still = λ none. absurd (true≢false (sym may ∙ none));
    atoms = λ allowed h. sym (has_atoms-And allowed (part ∷ []) ∙ and-true (has_atoms allowed part)) ∙ all.atoms allowed h;
    size = let s = all.size in let h = nodes-And (part ∷ []) in let p = sum_by-cons nodes part [] in omega (arith, s, h, p);
    growth = let g = all.growth in let h = growth-And changes (part ∷ []) in let p = sum_by-cons (growth changes) part [] in omega (arith, g, h, p);
  }

  one_or : (up : Bool) (form part : Form) → may_turn changes up form ≡ true → IsNarrowed up changes form (Or (part ∷ [])) → IsNarrowed up changes form part
  one_or up form part may all = record {
    turns = λ state now. sym (truth-Or (after state changes) (part ∷ []) ∙ or-false (truth (after state changes) part)) ∙ all.turns state now;
    only = λ state h. sym (truth-Or (after state changes) (part ∷ []) ∙ or-false (truth (after state changes) part)) ∙ all.only state h;
    still = λ none. absurd (true≢false (sym may ∙ none));
    atoms = λ allowed h. sym (has_atoms-Or allowed (part ∷ []) ∙ and-true (has_atoms allowed part)) ∙ all.atoms allowed h;
    size = let s = all.size in let h = nodes-Or (part ∷ []) in let p = sum_by-cons nodes part [] in omega (arith, s, h, p);
    growth = let g = all.growth in let h = growth-Or changes (part ∷ []) in let p = sum_by-cons (growth changes) part [] in omega (arith, g, h, p);
  }

  and_cut : (parts : List Form) → IsCutTo changes false (And parts) (joined true (turned_parts changes false parts))
  and_cut parts = by (filter (may_turn changes false) parts) refl where
    may : (part : Form) (rest : List Form) → filter (may_turn changes false) parts ≡ part ∷ rest → may_turn changes false (And parts) ≡ true
    may part rest is = may_turn-And changes false parts ∙ some_left (may_turn changes false) parts part rest is

    are : (part : Form) (rest : List Form) → filter (may_turn changes false) parts ≡ part ∷ rest → IsNarrowed false changes (And parts) (And (part ∷ rest))
    are part rest is = subst (λ kept. IsNarrowed false changes (And parts) (And kept)) is (narrowed_and changes parts (may part rest is))

    by : (kept : List Form) → filter (may_turn changes false) parts ≡ kept → IsCutTo changes false (And parts) (joined true (map (regressed changes) kept))
    by [] none = record {
      part = True;
      narrowed = narrowed_still changes false (And parts) (may_turn-And changes false parts ∙ none_left (may_turn changes false) parts none);
      is = sym (regressed-True changes);
    }
    by (part ∷ []) is = record { part = part; narrowed = one_and false (And parts) part (may part [] is) (are part [] is); is = refl }
    by (part ∷ other ∷ rest) is = record { part = And (part ∷ other ∷ rest); narrowed = are part (other ∷ rest) is; is = sym (regressed-And changes (part ∷ other ∷ rest)) }

  or_cut : (parts : List Form) → IsCutTo changes true (Or parts) (joined false (turned_parts changes true parts))
  or_cut parts = by (filter (may_turn changes true) parts) refl where
    may : (part : Form) (rest : List Form) → filter (may_turn changes true) parts ≡ part ∷ rest → may_turn changes true (Or parts) ≡ true
    may part rest is = may_turn-Or changes true parts ∙ some_left (may_turn changes true) parts part rest is

    are : (part : Form) (rest : List Form) → filter (may_turn changes true) parts ≡ part ∷ rest → IsNarrowed true changes (Or parts) (Or (part ∷ rest))
    are part rest is = subst (λ kept. IsNarrowed true changes (Or parts) (Or kept)) is (narrowed_or changes parts (may part rest is))

    by : (kept : List Form) → filter (may_turn changes true) parts ≡ kept → IsCutTo changes true (Or parts) (joined false (map (regressed changes) kept))
    by [] none = record {
      part = False;
      narrowed = narrowed_still changes true (Or parts) (may_turn-Or changes true parts ∙ none_left (may_turn changes true) parts none);
      is = sym (regressed-False changes);
    }
    by (part ∷ []) is = record { part = part; narrowed = one_or true (Or parts) part (may part [] is) (are part [] is); is = refl }
    by (part ∷ other ∷ rest) is = record { part = Or (part ∷ other ∷ rest); narrowed = are part (other ∷ rest) is; is = sym (regressed-Or changes (part ∷ other ∷ rest)) }

  cut : (up : Bool) (form : Form) → IsCutTo changes up form (turned changes up form)
  cut up True = whole_cut up True
  cut up False = whole_cut up False
  cut up (Atom atom) = whole_cut up (Atom atom)
  cut up (Not' shape part) = whole_cut up (Not' shape part)
  cut true (And' shape parts) = whole_cut true (And' shape parts)
  cut false (And' shape parts) = subst (λ form. IsCutTo changes false form (joined true (turned_parts changes false (items-the_row-Form _ parts)))) (and_is shape parts) (and_cut (items-the_row-Form _ parts))
  cut true (Or' shape parts) = subst (λ form. IsCutTo changes true form (joined false (turned_parts changes true (items-the_row-Form _ parts)))) (or_is shape parts) (or_cut (items-the_row-Form _ parts))
  cut false (Or' shape parts) = whole_cut false (Or' shape parts)

-- what is made is right for the effects, whose changes were sorted
module _ (effects sorted : List Change) (same : IsPermutation effects sorted) (up : Bool) (form : Form) where
  abbrev part : Form
  part = (cut sorted up form).part

  narrowed : IsNarrowed up effects form part
  narrowed = sorted_narrowed effects sorted same up form part (cut sorted up form).narrowed

  pub turned_truth : IsTurnBefore up effects form (turned sorted up form)
  turned_truth = subst (IsTurnBefore up effects form) (sym (cut sorted up form).is) (turn_before up effects form part (regressed sorted part) narrowed (sorted_truth effects sorted same part))

  pub turned_still : may_turn effects up form ≡ false → turned sorted up form ≡ constant (not up)
  turned_still none = (cut sorted up form).is ∙ ap (regressed sorted) (narrowed.still none) ∙ regressed-constant sorted (not up)

  pub turned_nodes : nodes (turned sorted up form) ≤ nodes form + growth effects form
  turned_nodes =
      let is = ap nodes (cut sorted up form).is in
      let n = sorted_nodes effects sorted same part in
      let s = narrowed.size in
      let g = narrowed.growth in
      omega (arith, is, n, s, g)

  pub turned_atoms : HasAtomsOfBoth effects form (turned sorted up form)
  turned_atoms allowed h all = ap (has_atoms allowed) (cut sorted up form).is ∙ sorted_atoms effects sorted same part allowed (narrowed.atoms allowed h) all
