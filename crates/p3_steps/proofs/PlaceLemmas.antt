-- Places of a range's objects, and those of them that may come behind others.
use Rattle.std.proofs.Common.{◌≡◌, ◌∙◌, ℕ, ◌+◌, ◌-◌, ◌<◌, ◌==◌, nat_lt, Bool, true, false, cond, Option, Some, None, List, [], ◌∷◌, ◌++◌, map, length, get_or, refl, sym, ap, subst, arith, zero, suc, if◌then◌else◌}
use Rattle.std.specs.Prelude.{flat_map, IfSome, IsSomeAnd, MatchOption}
use Rattle.std.specs.List.{All, Contains, filter, list_any, range_with_len}
use Rattle.std.specs.List.Sorted.{IsStrictlyIncreasing}
use Rattle.std.proofs.lemmas.Bool.{eq-eqb, eqb-true, false≢true, lt-ltb, ltb-false, ltb-true}
use Rattle.std.proofs.lemmas.List.{get_or_default, get_or_past}
use Rattle.std.proofs.lemmas.List.Elements.{All-append, All-cons, All-contains, All-head, All-nil, All-tail, All-weaker, Contains-append_left, Contains-append_right}
use Rattle.std.proofs.lemmas.List.Folds.{Any-from_list_any, list_any_at}
use Rattle.std.proofs.lemmas.List.Kept.{AllPairs-from_increasing}
use Rattle.p3_numbers.specs.declared.goal.NumberedGoal.{NumberedGoal}
use Rattle.p3_numbers.specs.declared.numbers.Numbers.{Numbers}
use Rattle.p3_expansion.specs.declared.statics.Statics.{Statics}
use Rattle.p3_steps.specs.Candidates.{all_taken, may_take, taken_at, ArePlaces, RulesOut, noted_at}
use Rattle.p3_steps.specs.Possible.{may_yet_begin}
use Rattle.p3_steps.specs.Steps.{is_among}
use Rattle.p3_steps.proofs.CandidateLemmas.{range-below}
use Rattle.p3_steps.proofs.RisingNumbers.{RiseWithin, rise-within, stretch-among}

-- ---- rising numbers among which are all that pass a test

filter-covered : (p q : ℕ → Bool) (xs : List ℕ) → All (λ x. p x ≡ true → q x ≡ true) xs → filter p (filter q xs) ≡ filter p xs
filter-covered p q [] covers = refl
filter-covered p q (x ∷ xs) covers =
    by (q x) (p x) refl refl (All-head (λ x. p x ≡ true → q x ≡ true) x xs covers) (filter-covered p q xs (All-tail (λ x. p x ≡ true → q x ≡ true) x xs covers))
  where
    by : (here there : Bool) → q x ≡ here → p x ≡ there → (p x ≡ true → q x ≡ true) → filter p (filter q xs) ≡ filter p xs → filter p (cond here (x ∷ filter q xs) (filter q xs)) ≡ cond there (x ∷ filter p xs) (filter p xs)
    by true true _ too _ rest = (λ i. cond (too i) (x ∷ filter p (filter q xs)) (filter p (filter q xs))) ∙ ap (λ kept. x ∷ kept) rest
    by true false _ too _ rest = (λ i. cond (too i) (x ∷ filter p (filter q xs)) (filter p (filter q xs))) ∙ rest
    by false true at too covered rest = absurd (false≢true (sym at ∙ covered too))
    by false false _ _ _ rest = rest

less-none : (xs : List ℕ) → map (λ n. n - 0) xs ≡ xs
less-none [] = refl
less-none (x ∷ xs) = let same : x - 0 ≡ x = omega arith in λ i. same i ∷ less-none xs i

contains-among : (xs : List ℕ) (n : ℕ) → Contains xs n → is_among xs n ≡ true
contains-among xs n (k, within, read) = list_any_at (λ one. one == n) xs k n within (eq-eqb (get_or xs k n) n read)

pub filter-rising : (p : ℕ → Bool) (count : ℕ) (xs : List ℕ) → IsStrictlyIncreasing xs → All (λ n. n < count) xs → ((n : ℕ) → n < count → p n ≡ true → Contains xs n) → filter p xs ≡ filter p (range_with_len 0 count)
filter-rising p count xs rising below covers =
    ap (filter p) (sym (stretch-among 0 0 count xs rise ∙ less-none xs))
    ∙ filter-covered p (λ n. is_among xs (0 + n)) (range_with_len 0 count)
    (All-weaker (λ n. n < count) (λ n. p n ≡ true → is_among xs (0 + n) ≡ true) (λ n low passes. ap (is_among xs) (omega arith) ∙ contains-among xs n (covers n low passes)) (range_with_len 0 count) (range-below count))
  where
    rise : RiseWithin (0 + 0) (0 + (0 + count)) xs
    rise = subst (λ end. RiseWithin (0 + 0) end xs) (omega arith) (rise-within 0 count xs (AllPairs-from_increasing xs rising) (λ k d within. omega arith) below)

-- ---- places that are noted

named : (size : ℕ) (objects places : List ℕ) → ArePlaces size objects places → (place : ℕ) → place < length objects → get_or objects place 0 < size
named size objects places are place within = by (nat_lt (get_or objects place 0) (length places)) refl
  where
    by : (low : Bool) → nat_lt (get_or objects place 0) (length places) ≡ low → get_or objects place 0 < size
    by true low = subst (λ n. get_or objects place 0 < n) are.size (ltb-true (get_or objects place 0) (length places) low)
    by false low = absurd (let here = are.noted place within in let past = get_or_past places (get_or objects place 0) (length objects) (ltb-false (get_or objects place 0) (length places) low) in omega (arith, within, here, past))

module _ (places : List ℕ) (count : ℕ) where
  one-below : (object : ℕ) → All (λ place. place < count) (noted_at places count object)
  one-below object = by (nat_lt (get_or places object count) count) refl
    where
      by : (low : Bool) → nat_lt (get_or places object count) count ≡ low → All (λ place. place < count) (if low then get_or places object count ∷ [] else [])
      by true low = All-cons (λ place. place < count) (get_or places object count) [] (ltb-true (get_or places object count) count low) (All-nil (λ place. place < count))
      by false low = All-nil (λ place. place < count)

  pub all-below : (row : List ℕ) → All (λ place. place < count) (flat_map (noted_at places count) row)
  all-below [] = All-nil (λ place. place < count)
  all-below (object ∷ row) = All-append (λ place. place < count) (noted_at places count object) (flat_map (noted_at places count) row) (one-below object) (all-below row)

  has-place : (row : List ℕ) (object place : ℕ) → Contains row object → get_or places object count ≡ place → place < count → Contains (flat_map (noted_at places count) row) place
  has-place [] object place (k, within, read) noted low = absurd (omega (arith, within))
  has-place (one ∷ row) object place (zero, within, read) noted low =
      Contains-append_left (noted_at places count one) (flat_map (noted_at places count) row) place
      (subst (λ all. Contains all place) (sym ((λ i. if nat_lt ((ap (λ n. get_or places n count) read ∙ noted) i) count then (ap (λ n. get_or places n count) read ∙ noted) i ∷ [] else []) ∙ ap (λ low. if low then place ∷ [] else []) (lt-ltb place count low))) (0, omega arith, refl))
  has-place (one ∷ row) object place (suc k, within, read) noted low =
      Contains-append_right (noted_at places count one) (flat_map (noted_at places count) row) place (has-place row object place (k, omega (arith, within), read) noted low)

-- ---- those found

flat-filter : (may : ℕ → Bool) (first : ℕ) (places : List ℕ) → flat_map (λ place. if may place then (first + place) ∷ [] else []) places ≡ map (λ place. first + place) (filter may places)
flat-filter may first [] = refl
flat-filter may first (place ∷ places) = by (may place) (flat-filter may first places)
  where
    by : (passes : Bool) → flat_map (λ place. if may place then (first + place) ∷ [] else []) places ≡ map (λ place. first + place) (filter may places)
        → (if passes then (first + place) ∷ [] else []) ++ flat_map (λ place. if may place then (first + place) ∷ [] else []) places ≡ map (λ place. first + place) (cond passes (place ∷ filter may places) (filter may places))
    by true rest = ap (λ more. (first + place) ∷ more) rest
    by false rest = rest

module _ (N : Numbers) (S : Statics) (goal : NumberedGoal) (slots objects row places found : List ℕ) (are : ArePlaces (length N.objects) objects places) (out : RulesOut N S goal slots row)
    (within : All (λ place. place < length objects) found) (all : All (Contains found) (flat_map (noted_at places (length objects)) row)) where
  in-row : (object : ℕ) → object < length N.objects → may_yet_begin N S (slots ++ object ∷ []) goal ≡ true → Contains row object
  in-row object low may = by (list_any (λ one. one == object) row) refl
    where
      by : (has : Bool) → list_any (λ one. one == object) row ≡ has → Contains row object
      by false none = absurd (false≢true (sym (out object low none) ∙ may))
      by true has =
          let (k, one, inside, read, same) = Any-from_list_any (λ one. one == object) row has in
          (k, inside, get_or_default row k object one inside ∙ read ∙ eqb-true one object same)

  is-found : (place : ℕ) → place < length objects → may_take N S goal slots objects place ≡ true → Contains found place
  is-found place low may =
      All-contains (Contains found) (flat_map (noted_at places (length objects)) row) place all
      (has-place places (length objects) row (get_or objects place 0) place (in-row (get_or objects place 0) (named (length N.objects) objects places are place low) may) (are.noted place low) low)

  -- those at the places found are all of them
  pub taken-found : (first : ℕ) → IsStrictlyIncreasing found → flat_map (taken_at N S goal slots objects first) found ≡ all_taken N S goal slots objects first
  taken-found first rising =
      flat-filter (may_take N S goal slots objects) first found
      ∙ ap (map (λ place. first + place)) (filter-rising (may_take N S goal slots objects) (length objects) found rising within is-found)

-- what is so of a value, if there is one, is so of what it is lent as
pub when-lent : {A B : Type 0} (gives : A → B → Type 0) (P : A → Type 0) (Q : B → Type 0) → ((x : A) (y : B) → gives x y → P x → Q y)
    → (value : Option A) (lent : Option B) → MatchOption value (lent ≡ None) (λ x. IsSomeAnd lent (gives x)) → IfSome value P → IfSome lent Q
when-lent gives P Q so None lent is has = subst (λ one. IfSome one Q) (sym is) tt
when-lent gives P Q so (Some x) None is has = absurd is
when-lent gives P Q so (Some x) (Some y) is has = so x y is has
