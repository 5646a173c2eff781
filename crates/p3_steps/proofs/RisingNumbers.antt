-- Rising numbers: those of a stretch that are among them, and what is left of them behind it.
use Rattle.std.proofs.Common.{◌≡◌, ◌∙◌, ℕ, ◌+◌, ◌-◌, ◌<◌, ◌≤◌, ◌≢◌, ◌==◌, nat_lt, Bool, true, false, ◌||◌, cond, List, [], ◌∷◌, map, length, take, drop, get_or, refl, sym, ap, subst, arith, zero, suc, true≢false}
use Rattle.std.specs.List.{All, AllPairs, filter, range_with_len}
use Rattle.std.specs.List.Sorted.{IsNonDecreasingBy, IsPartitionPoint}
use Rattle.std.proofs.lemmas.Bool.{ltb-false, ltb-true, ne_eqb}
use Rattle.std.proofs.lemmas.Bool.Decides.{Decides-eqb}
use Rattle.std.proofs.lemmas.List.{get_or-drop, get_or-take, length-drop, length-take, take-append-drop}
use Rattle.std.proofs.lemmas.List.Elements.{All-cons, All-head, All-nil, All-tail, All-take, All-weaker}
use Rattle.std.proofs.lemmas.List.Folds.{list_any-append, list_any_none}
use Rattle.p3_steps.specs.Steps.{is_among}

-- ---- filters

pub filter-map : {A B : Type 0} (p : B → Bool) (f : A → B) (xs : List A) → filter p (map f xs) ≡ map f (filter (λ x. p (f x)) xs)
filter-map p f [] = refl
filter-map p f (x ∷ xs) = by (p (f x)) (filter-map p f xs)
  where
    by : (t : Bool) → filter p (map f xs) ≡ map f (filter (λ x. p (f x)) xs) → cond t (f x ∷ filter p (map f xs)) (filter p (map f xs)) ≡ map f (cond t (x ∷ filter (λ x. p (f x)) xs) (filter (λ x. p (f x)) xs))
    by true rest = ap (λ kept. f x ∷ kept) rest
    by false rest = rest

pub filter-same : {A : Type 0} (p q : A → Bool) (xs : List A) → All (λ x. p x ≡ q x) xs → filter p xs ≡ filter q xs
filter-same p q [] same = refl
filter-same p q (x ∷ xs) same =
    let here = All-head (λ x. p x ≡ q x) x xs same in
    let rest = filter-same p q xs (All-tail (λ x. p x ≡ q x) x xs same) in
    λ i. cond (here i) (x ∷ rest i) (rest i)

pub filter-swap : {A : Type 0} (p q : A → Bool) (xs : List A) → filter p (filter q xs) ≡ filter q (filter p xs)
filter-swap p q [] = refl
filter-swap p q (x ∷ xs) = by (p x) (q x) refl refl (filter-swap p q xs)
  where
    by : (here there : Bool) → p x ≡ here → q x ≡ there → filter p (filter q xs) ≡ filter q (filter p xs)
        → filter p (cond there (x ∷ filter q xs) (filter q xs)) ≡ filter q (cond here (x ∷ filter p xs) (filter p xs))
    by true true at too rest = (λ i. cond (at i) (x ∷ filter p (filter q xs)) (filter p (filter q xs))) ∙ ap (λ kept. x ∷ kept) rest ∙ (λ i. cond (sym too i) (x ∷ filter q (filter p xs)) (filter q (filter p xs)))
    by true false at too rest = rest ∙ (λ i. cond (sym too i) (x ∷ filter q (filter p xs)) (filter q (filter p xs)))
    by false true at too rest = (λ i. cond (at i) (x ∷ filter p (filter q xs)) (filter p (filter q xs))) ∙ rest
    by false false at too rest = rest

-- ---- numbers of a stretch

or-false : (b : Bool) → (b || false) ≡ b
or-false true = refl
or-false false = refl

not-among : (numbers : List ℕ) (n : ℕ) → All (λ x. (x == n) ≡ false) numbers → is_among numbers n ≡ false
not-among numbers n apart = list_any_none (λ x. x == n) numbers apart

-- the numbers rise, from the first one on and below the end
abbrev pub RiseWithin : ℕ → ℕ → List ℕ → Type 0
RiseWithin first end [] = Unit {0}
RiseWithin first end (x ∷ xs) = (first ≤ x) × (x < end) × RiseWithin (x + 1) end xs

rise-apart : (first end n : ℕ) (xs : List ℕ) → n < first → RiseWithin first end xs → All (λ x. (x == n) ≡ false) xs
rise-apart first end n [] before rise = All-nil (λ x. (x == n) ≡ false)
rise-apart first end n (x ∷ xs) before (from, below, rise) =
    All-cons (λ x. (x == n) ≡ false) x xs (ne_eqb x n (λ same. omega (arith, same, from, before))) (rise-apart (x + 1) end n xs (omega (arith, from, before)) rise)

pub rise-within : (first end : ℕ) (xs : List ℕ) → AllPairs (λ x y. x < y) xs → All (λ n. first ≤ n) xs → All (λ n. n < end) xs → RiseWithin first end xs
rise-within first end [] pairs from below = tt
rise-within first end (x ∷ xs) pairs from below = (
  All-head (λ n. first ≤ n) x xs from,
  All-head (λ n. n < end) x xs below,
  rise-within (x + 1) end xs (λ i j d less within. pairs (suc i) (suc j) d (omega (arith, less)) (omega (arith, within)))
      (λ k d within. let less : x < get_or xs k d = pairs 0 (suc k) d (omega arith) (omega (arith, within)) in omega (arith, less))
      (All-tail (λ n. n < end) x xs below),
)

range-from : (from len : ℕ) → All (λ n. from ≤ n) (range_with_len from len)
range-from from zero = All-nil (λ n. from ≤ n)
range-from from (suc len) = All-cons (λ n. from ≤ n) from (range_with_len (from + 1) len) (omega arith) (All-weaker (λ n. from + 1 ≤ n) (λ n. from ≤ n) (λ n more. omega (arith, more)) (range_with_len (from + 1) len) (range-from (from + 1) len))

-- those of a stretch that are among them are they
pub stretch-among : (first from len : ℕ) (xs : List ℕ) → RiseWithin (first + from) (first + (from + len)) xs → filter (λ k. is_among xs (first + k)) (range_with_len from len) ≡ map (λ n. n - first) xs
stretch-among first from zero [] rise = refl
stretch-among first from zero (x ∷ xs) (low, below, rise) = absurd (omega (arith, low, below))
stretch-among first from (suc len) [] rise = stretch-among first (from + 1) len [] tt
stretch-among first from (suc len) (x ∷ xs) (low, below, rise) =
    by (x == (first + from)) refl
    (λ above. stretch-among first (from + 1) len xs (subst2 (λ a b. RiseWithin a b xs) above (omega arith) rise))
    (λ above. stretch-among first (from + 1) len (x ∷ xs) (above, omega (arith, below), subst (λ end. RiseWithin (x + 1) end xs) (omega arith) rise))
  where
    subst2 : (P : ℕ → ℕ → Type 0) {a b c d : ℕ} → a ≡ b → c ≡ d → P a c → P b d
    subst2 P {a} {b} {c} {d} e f p = subst (λ n. P b n) f (subst (λ n. P n c) e p)

    -- behind the number itself they are those of the others
    passed : x ≡ first + from → filter (λ k. is_among (x ∷ xs) (first + k)) (range_with_len (from + 1) len) ≡ filter (λ k. is_among xs (first + k)) (range_with_len (from + 1) len)
    passed is =
        filter-same (λ k. is_among (x ∷ xs) (first + k)) (λ k. is_among xs (first + k)) (range_with_len (from + 1) len)
        (All-weaker (λ k. from + 1 ≤ k) (λ k. is_among (x ∷ xs) (first + k) ≡ is_among xs (first + k)) (λ k more. ap (λ t. t || is_among xs (first + k)) (ne_eqb x (first + k) (λ same. omega (arith, same, is, more)))) (range_with_len (from + 1) len) (range-from (from + 1) len))

    by : (t : Bool) → (x == (first + from)) ≡ t
        → (x + 1 ≡ first + (from + 1) → filter (λ k. is_among xs (first + k)) (range_with_len (from + 1) len) ≡ map (λ n. n - first) xs)
        → (first + (from + 1) ≤ x → filter (λ k. is_among (x ∷ xs) (first + k)) (range_with_len (from + 1) len) ≡ map (λ n. n - first) (x ∷ xs))
        → cond (t || is_among xs (first + from)) (from ∷ filter (λ k. is_among (x ∷ xs) (first + k)) (range_with_len (from + 1) len)) (filter (λ k. is_among (x ∷ xs) (first + k)) (range_with_len (from + 1) len)) ≡ map (λ n. n - first) (x ∷ xs)
    by true is here other =
        let same : x ≡ first + from = (Decides-eqb x (first + from)).0 is in
        let number : from ≡ x - first = omega (arith, same) in
        λ i. number i ∷ (passed same ∙ here (omega (arith, same))) i
    by false is here other =
        let apart : x ≢ first + from = λ same. true≢false (sym ((Decides-eqb x (first + from)).1 same) ∙ is) in
        let above : first + (from + 1) ≤ x = omega (arith, low, apart) in
        ap (λ t. cond t (from ∷ filter (λ k. is_among (x ∷ xs) (first + k)) (range_with_len (from + 1) len)) (filter (λ k. is_among (x ∷ xs) (first + k)) (range_with_len (from + 1) len)))
        (not-among xs (first + from) (rise-apart (x + 1) (first + (from + suc len)) (first + from) xs (omega (arith, low)) rise))
        ∙ other above

-- ---- numbers that are left

-- what is left of the numbers: those from the first on
pub record IsLeft (first : ℕ) (those left : List ℕ) : Type 0 where
  pub same : (n : ℕ) → first ≤ n → is_among those n ≡ is_among left n
  pub rising : AllPairs (λ x y. x < y) left
  pub from : All (λ n. first ≤ n) left

-- the numbers rise, so that they are parted by halving
pub not-falling : (xs : List ℕ) → AllPairs (λ x y. x < y) xs → IsNonDecreasingBy (λ n. n) xs
not-falling xs pairs i j d less within = by (nat_lt i j) refl
  where
    by : (t : Bool) → nat_lt i j ≡ t → get_or xs i d ≤ get_or xs j d
    by true is = let below = pairs i j d (ltb-true i j is) within in omega (arith, below)
    by false is = let same : i ≡ j = omega (arith, less, ltb-false i j is) in omega (arith, ap (λ k. get_or xs k d) same)

-- of what is left, the numbers here are those below the end, and the later ones are left from the end on
pub record IsParted (first end : ℕ) (those here later : List ℕ) : Type 0 where
  pub below : All (λ n. n < end) here
  pub rise : RiseWithin first end here
  pub same : (n : ℕ) → first ≤ n → n < end → is_among those n ≡ is_among here n
  pub left : IsLeft end those later

module _ (first end : ℕ) (those left : List ℕ) (k : ℕ) (is : IsLeft first those left) (point : IsPartitionPoint (λ n. nat_lt n end ≡ true) (λ n. nat_lt n end ≡ false) left k) (bound : k ≤ length left) where
  in-front : (j : ℕ) → j < length (take k left) → j < k
  in-front j within = omega (arith, within, length-take k left)

  behind : (j : ℕ) → j < length (drop k left) → k + j < length left
  behind j within = omega (arith, within, length-drop k left)

  here-below : All (λ n. n < end) (take k left)
  here-below j d within = subst (λ n. n < end) (sym (get_or-take k left j d (in-front j within))) (ltb-true (get_or left j d) end (point.0 j d (omega arith) (in-front j within)))

  here-from : All (λ n. first ≤ n) (take k left)
  here-from = All-take (λ n. first ≤ n) k left is.from

  here-rises : AllPairs (λ x y. x < y) (take k left)
  here-rises i j d less within =
      let inside = in-front j within in
      subst (λ n. n < get_or (take k left) j d) (sym (get_or-take k left i d (omega (arith, less, inside))))
      (subst (λ n. get_or left i d < n) (sym (get_or-take k left j d inside)) (is.rising i j d less (omega (arith, inside, bound))))

  later-from : All (λ n. end ≤ n) (drop k left)
  later-from j d within = subst (λ n. end ≤ n) (sym (get_or-drop k left j d)) (ltb-false (get_or left (k + j) d) end (point.1 (k + j) d (omega arith) (behind j within)))

  later-rises : AllPairs (λ x y. x < y) (drop k left)
  later-rises i j d less within =
      subst (λ n. n < get_or (drop k left) j d) (sym (get_or-drop k left i d))
      (subst (λ n. get_or left (k + i) d < n) (sym (get_or-drop k left j d)) (is.rising (k + i) (k + j) d (omega (arith, less)) (behind j within)))

  both : (n : ℕ) → first ≤ n → is_among those n ≡ (is_among (take k left) n || is_among (drop k left) n)
  both n more = is.same n more ∙ ap (λ all. is_among all n) (sym (take-append-drop k left)) ∙ list_any-append (λ x. x == n) (take k left) (drop k left)

  parts : first ≤ end → IsParted first end those (take k left) (drop k left)
  parts less = record {
    below = here-below;
    rise = rise-within first end (take k left) here-rises here-from here-below;
    same = λ n more below.
        both n more
        ∙ ap (λ t. is_among (take k left) n || t) (not-among (drop k left) n (All-weaker (λ x. end ≤ x) (λ x. (x == n) ≡ false) (λ x above. ne_eqb x n (λ same. omega (arith, same, above, below))) (drop k left) later-from))
        ∙ or-false (is_among (take k left) n);
    left = record {
      same = λ n above.
          both n (omega (arith, less, above))
          ∙ ap (λ t. t || is_among (drop k left) n) (not-among (take k left) n (All-weaker (λ x. x < end) (λ x. (x == n) ≡ false) (λ x below. ne_eqb x n (λ same. omega (arith, same, above, below))) (take k left) here-below));
      rising = later-rises;
      from = later-from;
    };
  }

  pub parted : (here later : List ℕ) → first ≤ end → here ≡ take k left → later ≡ drop k left → IsParted first end those here later
  parted here later less front back = subst (λ now. IsParted first end those now later) (sym front) (subst (IsParted first end those (take k left)) (sym back) (parts less))
