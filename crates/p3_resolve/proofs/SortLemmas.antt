-- A stable sort by numbers is the one by insertion.
use Rattle.std.proofs.Common.{◌≡◌, ◌∙◌, ℕ, suc, ◌≤◌, ◌<◌, Bool, true, false, not, ◌&&◌, cond, if◌then◌else◌, nat_lt, ◌==◌, List, [], ◌∷◌, ◌++◌, length, get_or, map, refl, sym, ap, arith}
use Rattle.std.specs.Prelude.{filter, fold}
use Rattle.std.specs.List.Sorted.{IsSortedByKey, IsStableByKey, IsNonDecreasingBy, ties}
use Rattle.std.specs.Ordering.{is_lt, nat_cmp}
use Rattle.std.specs.declared.cmp.Ordering.TheVariants.{Less, Equal, Greater}
use Rattle.std.proofs.lemmas.Bool.{ltb-false, ltb-true, le-ltb}
use Rattle.std.proofs.lemmas.List.{append-nil, append_assoc}
use Rattle.std.proofs.lemmas.List.Elements.{filter-append}
use Rattle.std.proofs.lemmas.List.Sorted.{IsNonDecreasingBy-from_sort}
use Rattle.p3_task.specs.PreferenceNames.{Named, placed}

is_lt-nat : (a b : ℕ) → is_lt (nat_cmp a b) ≡ nat_lt a b
is_lt-nat a b = by (nat_lt a b) (a == b)
  where
    by : (less same : Bool) → is_lt (cond less Less (cond same Equal Greater)) ≡ less
    by true same = refl
    by false true = refl
    by false false = refl

pub neither : ℕ → ℕ → Bool
neither a b = not (nat_lt a b) && not (nat_lt b a)

neither-same : (a b : ℕ) → a ≡ b → neither a b ≡ true
unfolding neither
neither-same a b same = λ i. not (le-ltb a b (omega (arith, same)) i) && not (le-ltb b a (omega (arith, same)) i)

neither-below : (a b : ℕ) → a < b → neither a b ≡ false
unfolding neither
neither-below a b below = by (nat_lt a b) refl (nat_lt b a)
  where
    by : (less : Bool) → nat_lt a b ≡ less → (more : Bool) → (not less && not more) ≡ false
    by true is more = refl
    by false is more = absurd (omega (arith, below, ltb-false a b is))

neither-is : (a b : ℕ) → neither a b ≡ true → a ≡ b
unfolding neither
neither-is a b is = by (nat_lt a b) refl (nat_lt b a) refl is
  where
    by : (less : Bool) → nat_lt a b ≡ less → (more : Bool) → nat_lt b a ≡ more → (not less && not more) ≡ true → a ≡ b
    by true less more e is = absurd (cc)
    by false less true e is = absurd (cc)
    by false less false e is = let up = ltb-false a b less in let down = ltb-false b a e in omega (arith, up, down)

module _ {X : Type 0} (key : X → ℕ) where
  abbrev tie : X → X → Bool
  tie x y = neither (key x) (key y)

  tie-is_ties : (x y : X) → ties (λ a b. is_lt (nat_cmp (key a) (key b))) x y ≡ tie x y
  unfolding neither
  tie-is_ties x y = λ i. not (is_lt-nat (key x) (key y) i) && not (is_lt-nat (key y) (key x) i)

  abbrev Above : ℕ → List X → Type 0
  Above n [] = Unit {0}
  Above n (x ∷ xs) = (n ≤ key x) × Above n xs

  abbrev Rises : List X → Type 0
  Rises [] = Unit {0}
  Rises (x ∷ xs) = Above (key x) xs × Rises xs

  above-less : (m n : ℕ) → m ≤ n → (xs : List X) → Above n xs → Above m xs
  above-less m n less [] above = tt
  above-less m n less (x ∷ xs) above = (omega (arith, less, above.0), above-less m n less xs above.1)

  none-above : (x : X) (n : ℕ) → key x < n → (ys : List X) → Above n ys → filter (tie x) ys ≡ []
  none-above x n below [] above = refl
  none-above x n below (y ∷ ys) above =
      (λ i. cond (neither-below (key x) (key y) (omega (arith, below, above.0)) i) (y ∷ filter (tie x) ys) (filter (tie x) ys)) ∙ none-above x n below ys above.1

  above-from : (n : ℕ) (ys : List X) → ((j : ℕ) (d : X) → j < length ys → n ≤ key (get_or ys j d)) → Above n ys
  above-from n [] each = tt
  above-from n (y ∷ ys) each = (each 0 y (omega arith), above-from n ys (λ j d within. each (suc j) d (omega (arith, within))))

  rises-from : (ys : List X) → IsNonDecreasingBy key ys → Rises ys
  rises-from [] up = tt
  rises-from (y ∷ ys) up = (
    above-from (key y) ys (λ j d within. up 0 (suc j) d (omega arith) (omega (arith, within))),
    rises-from ys (λ i j d before within. up (suc i) (suc j) d (omega (arith, before)) (omega (arith, within))),
  )

  -- ---- lists that rise and have the same items at each number are the same

  kept-first : (x y : X) (ys : List X) → key x ≡ key y → filter (tie x) (y ∷ ys) ≡ y ∷ filter (tie x) ys
  kept-first x y ys same = λ i. cond (neither-same (key x) (key y) same i) (y ∷ filter (tie x) ys) (filter (tie x) ys)

  tails-same : (x y z : X) (ys zs : List X) → y ≡ z → filter (tie x) (y ∷ ys) ≡ filter (tie x) (z ∷ zs) → filter (tie x) ys ≡ filter (tie x) zs
  tails-same x y z ys zs same both = by (tie x y) ((λ i. cond (tie x y) (same i ∷ filter (tie x) zs) (filter (tie x) zs)) ∙ (λ i. cond (tie x (same i)) (z ∷ filter (tie x) zs) (filter (tie x) zs))) both
    where
      by : (kept : Bool) → cond kept (y ∷ filter (tie x) zs) (filter (tie x) zs) ≡ filter (tie x) (z ∷ zs) → cond kept (y ∷ filter (tie x) ys) (filter (tie x) ys) ≡ filter (tie x) (z ∷ zs) → filter (tie x) ys ≡ filter (tie x) zs
      by true second first = cc
      by false second first = first ∙ sym second

  same-risen : (ys zs : List X) → Rises ys → Rises zs → ((x : X) → filter (tie x) ys ≡ filter (tie x) zs) → ys ≡ zs
  same-risen [] [] up other same = refl
  same-risen [] (z ∷ zs) up other same = let kept = sym (kept-first z z zs refl) ∙ sym (same z) in absurd (cc kept)
  same-risen (y ∷ ys) [] up other same = let kept = sym (kept-first y y ys refl) ∙ same y in absurd (cc kept)
  same-risen (y ∷ ys) (z ∷ zs) up other same = by (nat_lt (key y) (key z)) refl (nat_lt (key z) (key y)) refl (λ tails. same-risen ys zs up.1 other.1 tails)
    where
      one : key y ≡ key z → y ≡ z
      one level = let heads = sym (kept-first y y ys refl) ∙ same y ∙ kept-first y z zs level in cc heads

      by : (less : Bool) → nat_lt (key y) (key z) ≡ less → (more : Bool) → nat_lt (key z) (key y) ≡ more
          → (((x : X) → filter (tie x) ys ≡ filter (tie x) zs) → ys ≡ zs) → (y ∷ ys) ≡ (z ∷ zs)
      by true less more e rest =
          let below : key y < key z = ltb-true (key y) (key z) less in
          let none = sym (kept-first y y ys refl) ∙ same y ∙ none-above y (key z) below (z ∷ zs) (omega arith, other.0) in absurd (cc none)
      by false less true e rest =
          let below : key z < key y = ltb-true (key z) (key y) e in
          let none = sym (kept-first z z zs refl) ∙ sym (same z) ∙ none-above z (key y) below (y ∷ ys) (omega arith, up.0) in absurd (cc none)
      by false less false e rest =
          let first = one (omega (arith, ltb-false (key y) (key z) less, ltb-false (key z) (key y) e)) in
          λ i. first i ∷ rest (λ x. tails-same x y z ys zs first (same x)) i

  -- ---- insertion

  abbrev put : X → List X → List X
  put x [] = x ∷ []
  put x (y ∷ ys) = if nat_lt (key x) (key y) then x ∷ y ∷ ys else y ∷ put x ys

  put-above : (n : ℕ) (x : X) → n ≤ key x → (ys : List X) → Above n ys → Above n (put x ys)
  put-above n x least [] above = (least, tt)
  put-above n x least (y ∷ ys) above = by (nat_lt (key x) (key y)) (put-above n x least ys above.1)
    where
      by : (less : Bool) → Above n (put x ys) → Above n (if less then x ∷ y ∷ ys else y ∷ put x ys)
      by true later = (least, above)
      by false later = (above.0, later)

  put-rises : (x : X) (ys : List X) → Rises ys → Rises (put x ys)
  put-rises x [] up = (tt, tt)
  put-rises x (y ∷ ys) up = by (nat_lt (key x) (key y)) refl (put-rises x ys up.1)
    where
      by : (less : Bool) → nat_lt (key x) (key y) ≡ less → Rises (put x ys) → Rises (if less then x ∷ y ∷ ys else y ∷ put x ys)
      by true is later = let below : key x ≤ key y = omega (arith, ltb-true (key x) (key y) is) in ((below, above-less (key x) (key y) below ys up.0), up)
      by false is later = (put-above (key y) x (ltb-false (key x) (key y) is) ys up.0, later)

  put-kept : (z x : X) (ys : List X) → Rises ys → filter (tie z) (put x ys) ≡ filter (tie z) ys ++ filter (tie z) (x ∷ [])
  put-kept z x [] up = refl
  put-kept z x (y ∷ ys) up = by (nat_lt (key x) (key y)) refl (put-kept z x ys up.1)
    where
      front : key x < key y → (kept : Bool) → tie z x ≡ kept → cond kept (x ∷ filter (tie z) (y ∷ ys)) (filter (tie z) (y ∷ ys)) ≡ filter (tie z) (y ∷ ys) ++ cond kept (x ∷ []) []
      front below true is =
          let none = none-above z (key y) (omega (arith, below, neither-is (key z) (key x) is)) (y ∷ ys) (omega arith, up.0) in
          (λ i. x ∷ none i) ∙ (λ i. sym none i ++ x ∷ [])
      front below false is = sym (append-nil (filter (tie z) (y ∷ ys)))

      behind : (kept : Bool) → filter (tie z) (put x ys) ≡ filter (tie z) ys ++ filter (tie z) (x ∷ [])
          → cond kept (y ∷ filter (tie z) (put x ys)) (filter (tie z) (put x ys)) ≡ cond kept (y ∷ filter (tie z) ys) (filter (tie z) ys) ++ filter (tie z) (x ∷ [])
      behind true later = ap (λ rest. y ∷ rest) later
      behind false later = later

      by : (less : Bool) → nat_lt (key x) (key y) ≡ less → filter (tie z) (put x ys) ≡ filter (tie z) ys ++ filter (tie z) (x ∷ [])
          → filter (tie z) (if less then x ∷ y ∷ ys else y ∷ put x ys) ≡ filter (tie z) (y ∷ ys) ++ filter (tie z) (x ∷ [])
      by true is later = front (ltb-true (key x) (key y) is) (tie z x) refl
      by false is later = behind (tie z y) later

  abbrev put_all : List X → List X → List X
  put_all start xs = fold (λ sorted x. put x sorted) start xs

  put_all-rises : (start xs : List X) → Rises start → Rises (put_all start xs)
  put_all-rises start [] up = up
  put_all-rises start (x ∷ xs) up = put_all-rises (put x start) xs (put-rises x start up)

  put_all-kept : (z : X) (start xs : List X) → Rises start → filter (tie z) (put_all start xs) ≡ filter (tie z) start ++ filter (tie z) xs
  put_all-kept z start [] up = sym (append-nil (filter (tie z) start))
  put_all-kept z start (x ∷ xs) up =
      put_all-kept z (put x start) xs (put-rises x start up) ∙ (λ i. put-kept z x start up i ++ filter (tie z) xs)
      ∙ append_assoc (filter (tie z) start) (filter (tie z) (x ∷ [])) (filter (tie z) xs) ∙ ap (λ rest. filter (tie z) start ++ rest) (sym (filter-append (tie z) (x ∷ []) xs))

  same-sorted : (xs ys : List X) → IsSortedByKey key nat_cmp ys → IsStableByKey key nat_cmp xs ys → ys ≡ put_all [] xs
  same-sorted xs ys sorted stable =
      same-risen ys (put_all [] xs) (rises-from ys (IsNonDecreasingBy-from_sort key ys sorted)) (put_all-rises [] xs tt)
      (λ x. (λ i. filter (λ y. sym (tie-is_ties x y) i) ys) ∙ stable x ∙ (λ i. filter (λ y. tie-is_ties x y i) xs) ∙ sym (put_all-kept x [] xs tt))

-- ---- names

module _ {X : Type 0} (named : X → Named) where
  key_of : X → ℕ
  key_of x = (named x).at

  put-placed : (x : X) (ys : List X) → map named (put (λ y. (named y).at) x ys) ≡ placed (named x) (map named ys)
  put-placed x [] = refl
  put-placed x (y ∷ ys) = by (nat_lt (named x).at (named y).at) (put-placed x ys)
    where
      by : (less : Bool) → map named (put (λ y. (named y).at) x ys) ≡ placed (named x) (map named ys)
          → map named (if less then x ∷ y ∷ ys else y ∷ put (λ y. (named y).at) x ys) ≡ (if less then named x ∷ named y ∷ map named ys else named y ∷ placed (named x) (map named ys))
      by true later = refl
      by false later = ap (λ rest. named y ∷ rest) later

  put_all-placed : (start xs : List X) → map named (put_all (λ y. (named y).at) start xs) ≡ fold (λ sorted one. placed one sorted) (map named start) (map named xs)
  put_all-placed start [] = refl
  put_all-placed start (x ∷ xs) =
      put_all-placed (put (λ y. (named y).at) x start) xs ∙ ap (λ from. fold (λ sorted one. placed one sorted) from (map named xs)) (put-placed x start)

  -- names that are sorted by their offsets are in the order of the text
  pub sorted-placed : (xs ys : List X) → IsSortedByKey (λ x. (named x).at) nat_cmp ys → IsStableByKey (λ x. (named x).at) nat_cmp xs ys
      → map named ys ≡ fold (λ sorted one. placed one sorted) [] (map named xs)
  sorted-placed xs ys sorted stable = ap (map named) (same-sorted (λ x. (named x).at) xs ys sorted stable) ∙ put_all-placed [] xs
