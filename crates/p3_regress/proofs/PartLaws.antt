-- A part that reads no atom which a change names is not turned, so those found by atom are all that may be.
use Rattle.std.proofs.Common.{◌≡◌, ◌∙◌, ◌⊎◌, inl, inr, ℕ, zero, suc, ◌+◌, ◌≤◌, ◌<◌, ◌==◌, Bool, true, false, not, cond, if◌then◌else◌, ◌&&◌, ◌||◌, List, [], ◌∷◌, ◌++◌, length, map, take, get_or, refl, sym, ap, arith, true≢false}
use Rattle.std.specs.Prelude.{Contains, slice_index_or}
use Rattle.std.specs.List.{filter, flat_map, list_any}
use Rattle.std.specs.List.Sorted.{IsPermutation, IsNonDecreasing}
use Rattle.std.proofs.lemmas.Bool.{or_parts, or_from, false_from_ne_true, cases_lt}
use Rattle.std.proofs.lemmas.Bool.Decides.{nat_tests}
use Rattle.std.proofs.lemmas.List.{get_or_default, take_all, take_more, map-append}
use Rattle.std.proofs.lemmas.List.Elements.{filter-append}
use Rattle.std.proofs.lemmas.List.Folds.{list_any-append, list_any_none}
use Rattle.std.proofs.lemmas.List.Sorted.{list_any-IsPermutation}
use mathlib.Core.Former.{Count}
use Rattle.p3_formula.specs.AtomLists.{atoms_of, atoms_layer}
use Rattle.p3_formula.specs.Folds.{fold_forms}
use Rattle.p3_formula.specs.Simplified.{joined}
use Rattle.p3_formula.specs.declared.form.Change.{Change}
use Rattle.p3_formula.specs.declared.form.Form.{Form, Row_of-Form, end_of-Form, more_of-Form, items_hidden-the_row-Form-1}
use Rattle.p3_formula.specs.declared.form.Form.TheVariants.{True, False, Atom, Not, And, Or, Not', And', Or'}
use Rattle.p3_regress.specs.Parts.{AreListed, HasTurning, ListsParts, parts_of}
use Rattle.p3_regress.specs.Readers.{is_at, is_read_at, mentions, readers_from}
use Rattle.p3_regress.specs.Regressed.{is_of, regressed}
use Rattle.p3_regress.specs.Turned.{may_turn, turned, turned_parts, turned_whole, turns_layer}
use Rattle.p3_regress.specs.declared.readers.PartsByAtom.{PartsByAtom}
use Rattle.p3_regress.specs.declared.readers.PartReader.{PartReader}
use Rattle.p3_regress.proofs.ReaderLemmas.{any_weaker, inside, mentioned}

-- ---- the parts of a form

pub parts_of-And : (parts : List Form) → parts_of (And parts) ≡ parts
parts_of-And parts = items_hidden-the_row-Form-1 parts

pub parts_of-Or : (parts : List Form) → parts_of (Or parts) ≡ parts
parts_of-Or parts = items_hidden-the_row-Form-1 parts

pub ruleset parts_laws = (parts_of-And, parts_of-Or)

module _ (changes : List Change) (up : Bool) where
  pub turned-And : (parts : List Form) → turned changes up (And parts) ≡ (if up then turned_whole changes true (And parts) else joined true (turned_parts changes false parts))
  turned-And parts = ap (λ some. if up then turned_whole changes true (And parts) else joined true (turned_parts changes false some)) (parts_of-And parts)

  pub turned-Or : (parts : List Form) → turned changes up (Or parts) ≡ (if up then joined false (turned_parts changes true parts) else turned_whole changes false (Or parts))
  turned-Or parts = ap (λ some. if up then joined false (turned_parts changes true some) else turned_whole changes false (Or parts)) (parts_of-Or parts)

  pub turned-Not : (part : Form) → turned changes up (Not part) ≡ turned_whole changes up (Not part)
  turned-Not part = refl

pub ruleset turned_laws = (turned-And, turned-Or, turned-Not)

-- parts that are listed with the atoms that they read are
pub are_listed : (parts : List Form) (readers : List PartReader) → IsPermutation (readers_from 0 (map atoms_of parts)) readers → AreListed parts readers
are_listed parts readers same atom place part within reads =
    sym (list_any-IsPermutation (is_at atom place) (readers_from 0 (map atoms_of parts)) readers same)
    ∙ ap (λ n. list_any (is_at atom n) (readers_from 0 (map atoms_of parts))) from_zero
    ∙ inside atom atoms_of 0 place parts part within ∙ reads
  where
    from_zero : place ≡ 0 + place
    from_zero = omega arith

-- ---- what reads no atom that a change names is not turned

module _ (changes : List Change) where
  abbrev is_touched : List ℕ → Bool
  is_touched atoms = list_any (λ (change : Change). mentions change.atom atoms) changes

  both_untouched : (atoms more : List ℕ) → is_touched (atoms ++ more) ≡ false → (is_touched atoms ≡ false) × (is_touched more ≡ false)
  both_untouched atoms more none = by changes none where
    by : (some : List Change) → list_any (λ (change : Change). mentions change.atom (atoms ++ more)) some ≡ false
        → (list_any (λ (change : Change). mentions change.atom atoms) some ≡ false) × (list_any (λ (change : Change). mentions change.atom more) some ≡ false)
    by [] h = (refl, refl)
    by (change ∷ some) h =
        let parts = or_parts (mentions change.atom (atoms ++ more)) _ h in
        let here = or_parts (mentions change.atom atoms) (mentions change.atom more) (sym (list_any-append (λ one. one == change.atom) atoms more) ∙ parts.0) in
        let later = by some parts.1 in
        (or_from (mentions change.atom atoms) _ here.0 later.0, or_from (mentions change.atom more) _ here.1 later.1)

  untouched_atom : (atom : ℕ) (up : Bool) → is_touched (atom ∷ []) ≡ false → list_any (is_of up atom) changes ≡ false
  untouched_atom atom up none = by changes none where
    other : (a b : ℕ) (more : Bool) → ((a == b) || false) ≡ false → ((b == a) && more) ≡ false
    other a b more h = ap (λ c. c && more) (let k = (or_parts (a == b) false h).0 in apart k) where
      apart : (a == b) ≡ false → (b == a) ≡ false
      apart k = grind (arith, nat_tests)

    by : (some : List Change) → list_any (λ (change : Change). mentions change.atom (atom ∷ [])) some ≡ false → list_any (is_of up atom) some ≡ false
    by [] h = refl
    by (change ∷ some) h =
        let parts = or_parts (mentions change.atom (atom ∷ [])) _ h in
        or_from (is_of up atom change) _ (other atom change.atom _ parts.0) (by some parts.1)

  mutual
    unfolding atoms_of may_turn

    untouched : (form : Form) (up : Bool) → is_touched (atoms_of form) ≡ false → may_turn changes up form ≡ false
    untouched True up none = refl
    untouched False up none = refl
    untouched (Atom atom) up none = untouched_atom atom up none
    untouched (Not' shape (more_of-Form part rest)) up none = untouched part (not up) none
    untouched (And' shape parts) up none = all_untouched parts up none
    untouched (Or' shape parts) up none = all_untouched parts up none

    all_untouched : {n : Count} (parts : Row_of-Form n) (up : Bool) → is_touched (flat_map (λ part. part) (fold_forms atoms_layer parts)) ≡ false
        → list_any (λ part. part up) (fold_forms (turns_layer changes) parts) ≡ false
    all_untouched end_of-Form up none = refl
    all_untouched (more_of-Form part rest) up none =
        let both = both_untouched (atoms_of part) (flat_map (λ part. part) (fold_forms atoms_layer rest)) none in
        or_from (may_turn changes up part) _ (untouched part up both.0) (all_untouched rest up both.1)

  touched : (form : Form) (up : Bool) → may_turn changes up form ≡ true → is_touched (atoms_of form) ≡ true
  touched form up may = by (is_touched (atoms_of form)) refl where
    by : (b : Bool) → is_touched (atoms_of form) ≡ b → b ≡ true
    by true e = refl
    by false e = absurd (true≢false (sym may ∙ untouched form up e))

  -- so the parts that may be turned stand at the places that are read
  pub has_turning : (up : Bool) (parts : List Form) (by_atom : PartsByAtom) (places : List ℕ) → ListsParts parts by_atom → by_atom.listed ≡ true → ((place : ℕ) → mentions place places ≡ is_read_at changes by_atom.readers.items place)
      → HasTurning (may_turn changes up) parts places
  has_turning up parts by_atom places lists listed read place part within may =
      read place
      ∙ any_weaker (λ (change : Change). mentions change.atom (atoms_of (slice_index_or parts place part))) (λ (change : Change). list_any (is_at change.atom place) by_atom.readers.items)
      (λ (change : Change) reads. lists listed change.atom place part within reads) changes (touched (slice_index_or parts place part) up may)

-- ---- parts one after another

module _ (test : Form → Bool) where
  -- those of a stretch in which none passes are not kept
  pub filter_idle : (parts : List Form) (next place : ℕ) → next ≤ place → ((other : ℕ) (d : Form) → next ≤ other → other < place → other < length parts → test (get_or parts other d) ≡ false)
      → filter test (take place parts) ≡ filter test (take next parts)
  filter_idle [] zero zero le idle = refl
  filter_idle [] zero (suc place) le idle = refl
  filter_idle [] (suc next) zero le idle = refl
  filter_idle [] (suc next) (suc place) le idle = refl
  filter_idle (part ∷ parts) zero zero le idle = refl
  filter_idle (part ∷ parts) (suc next) zero le idle = absurd (omega (arith, le))
  filter_idle (part ∷ parts) zero (suc place) le idle =
      ap (λ b. cond b (part ∷ filter test (take place parts)) (filter test (take place parts))) (idle 0 part (omega arith) (omega arith) (omega arith))
      ∙ filter_idle parts zero place (omega arith) (λ other d low high within. idle (suc other) d (omega arith) (omega (arith, high)) (omega (arith, within)))
  filter_idle (part ∷ parts) (suc next) (suc place) le idle =
      ap (λ kept. cond (test part) (part ∷ kept) kept) (filter_idle parts next place (omega (arith, le)) (λ other d low high within. idle (suc other) d (omega (arith, low)) (omega (arith, high)) (omega (arith, within))))

module _ (changes : List Change) (up : Bool) (parts : List Form) (places : List ℕ) (has : HasTurning (may_turn changes up) parts places) where
  -- a part between those before the next one and the place may not be turned
  module _ (sorted : IsNonDecreasing places) (next index : ℕ) (passed : (j : ℕ) → j < index → get_or places j 0 < length parts → get_or places j 0 < next) where
    idle_before : (bound : ℕ) → ((j : ℕ) → index ≤ j → j < length places → bound ≤ get_or places j 0) → (other : ℕ) (d : Form) → next ≤ other → other < bound → other < length parts → may_turn changes up (get_or parts other d) ≡ false
    idle_before bound behind other d low high within = false_from_ne_true (may_turn changes up (get_or parts other d)) (λ may. by (mentioned other places (has other d within may))) where
      by : Contains places other → ⊥
      by (j, inside, is) = at (cases_lt j index) where
        here : get_or places j 0 ≡ other
        here = get_or_default places j 0 other inside ∙ is

        at : (j < index) ⊎ (index ≤ j) → ⊥
        at (inl early) = let p = passed j early (omega (arith, here, within)) in omega (arith, p, here, low)
        at (inr late) = let b = behind j late inside in omega (arith, b, here, high)

    pub one_turned : (place : ℕ) (part : Form) → index < length places → place ≡ get_or places index 0 → next ≤ place → place < length parts → part ≡ get_or parts place part
        → turned_parts changes up (take next parts) ++ turned_parts changes up (part ∷ []) ≡ turned_parts changes up (take (place + 1) parts)
    one_turned place part inside at le within is =
        let idle = filter_idle (may_turn changes up) parts next place le (idle_before place (λ j late w. let r = sorted index j 0 late w in omega (arith, r, at))) in
        ap (λ front. map (regressed changes) front ++ turned_parts changes up (part ∷ [])) (sym idle)
        ∙ sym (map-append (regressed changes) (filter (may_turn changes up) (take place parts)) (filter (may_turn changes up) (part ∷ [])))
        ∙ ap (map (regressed changes)) (sym (filter-append (may_turn changes up) (take place parts) (part ∷ [])) ∙ ap (filter (may_turn changes up)) (ap (λ one. take place parts ++ one ∷ []) is ∙ sym (take_more parts place part within)))

    pub all_turned : length places ≤ index → next ≤ length parts → turned_parts changes up (take next parts) ≡ turned_parts changes up parts
    all_turned end le =
        ap (map (regressed changes)) (sym (filter_idle (may_turn changes up) parts next (length parts) le (idle_before (length parts) (λ j late w. absurd (omega (arith, late, w, end)))))
        ∙ ap (filter (may_turn changes up)) (take_all (length parts) parts (omega arith)))

  -- where none of those at the places may be turned, none may
  pub none_turned : ((j : ℕ) (d : Form) → j < length places → get_or places j 0 < length parts → may_turn changes up (get_or parts (get_or places j 0) d) ≡ false) → list_any (may_turn changes up) parts ≡ false
  none_turned none = list_any_none (may_turn changes up) parts (λ other d within. false_from_ne_true (may_turn changes up (get_or parts other d)) (λ may. by other d within may (mentioned other places (has other d within may)))) where
    by : (other : ℕ) (d : Form) → other < length parts → may_turn changes up (get_or parts other d) ≡ true → Contains places other → ⊥
    by other d within may (j, inside, is) =
        let here : get_or places j 0 ≡ other = get_or_default places j 0 other inside ∙ is in
        true≢false (sym may ∙ ap (λ n. may_turn changes up (get_or parts n d)) (sym here) ∙ none j d inside (omega (arith, here, within)))
