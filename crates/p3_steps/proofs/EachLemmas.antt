-- What the items of a list decide where each has to pass, or else some.
use Rattle.std.proofs.Common.{◌≡◌, ◌∙◌, ℕ, ◌+◌, ◌<◌, ◌≤◌, ◌≢◌, Bool, true, false, not, ◌&&◌, ◌||◌, List, [], ◌∷◌, length, drop, get_or, refl, sym, ap, arith}
use Rattle.std.specs.Bool.{OnTrue}
use Rattle.std.specs.List.{All, list_any, list_all}
use Rattle.std.proofs.lemmas.Bool.{and_from, or_right, false≢true}
use Rattle.std.proofs.lemmas.List.{drop_all, drop_more}
use Rattle.std.proofs.lemmas.List.Elements.{All-head, All-tail}
use mathlib.Core.Bool.{beq}
use Rattle.p3_expansion.specs.Meanings.{each_or_some}

other-is : (a b : Bool) → a ≢ b → a ≡ not b
other-is true true differ = absurd (differ refl)
other-is true false differ = refl
other-is false true differ = refl
other-is false false differ = absurd (differ refl)

pub same-is : (a b : Bool) → not (beq a b) ≡ false → a ≡ b
same-is true true is = refl
same-is true false is = absurd (false≢true (sym is))
same-is false true is = absurd (false≢true (sym is))
same-is false false is = refl

pub differ-is : (a b : Bool) → not (beq a b) ≡ true → a ≢ b
differ-is true true is same = false≢true is
differ-is true false is same = false≢true (sym same)
differ-is false true is same = false≢true same
differ-is false false is same = false≢true is

pub on-same : (a b : Bool) {P : Type 0} → (a ≡ b → P) → OnTrue (beq a b) P
on-same true true follow = follow refl
on-same true false follow = tt
on-same false true follow = tt
on-same false false follow = follow refl

module _ {A : Type 0} (test : A → Bool) (xs : List A) where
  module _ (i : ℕ) (x : A) (within : i < length xs) (read : x ≡ get_or xs i x) where
    left : drop i xs ≡ x ∷ drop (i + 1) xs
    left = drop_more xs i x within ∙ ap (λ one. one ∷ drop (i + 1) xs) (sym read)

    -- the item leaves it to those behind it
    pub each-passed : (every : Bool) → test x ≡ every → each_or_some every test (drop i xs) ≡ each_or_some every test (drop (i + 1) xs)
    each-passed true is = ap (list_all test) left ∙ ap (λ b. b && list_all test (drop (i + 1) xs)) is
    each-passed false is = ap (list_any test) left ∙ ap (λ b. b || list_any test (drop (i + 1) xs)) is

    -- it decides
    pub each-decided : (every : Bool) → test x ≢ every → each_or_some every test (drop i xs) ≡ not every
    each-decided true differs = ap (list_all test) left ∙ ap (λ b. b && list_all test (drop (i + 1) xs)) (other-is (test x) true differs)
    each-decided false differs = ap (list_any test) left ∙ ap (λ b. b || list_any test (drop (i + 1) xs)) (other-is (test x) false differs)

  -- none has decided
  pub each-over : (i : ℕ) → length xs ≤ i → (every : Bool) → each_or_some every test (drop i xs) ≡ every
  each-over i past true = ap (list_all test) (drop_all i xs past)
  each-over i past false = ap (list_any test) (drop_all i xs past)

  -- all pass
  pub each-always : ((x : A) → test x ≡ true) → (every : Bool) → (every ≡ false → 0 < length xs) → each_or_some every test xs ≡ true
  each-always passes every some = by xs every some
    where
      by : (ys : List A) (every : Bool) → (every ≡ false → 0 < length ys) → each_or_some every test ys ≡ true
      by [] true some = refl
      by [] false some = let none = some refl in absurd (omega (arith, none))
      by (y ∷ ys) true some = (λ i. passes y i && list_all test ys) ∙ by ys true (λ e. absurd (cc))
      by (y ∷ ys) false some = λ i. passes y i || list_any test ys

-- at each value of something the items pass
module _ {A I : Type 0} (test : I → A → Bool) (xs : List A) (i : ℕ) (x : A) (within : i < length xs) (read : x ≡ get_or xs i x) (every sure : Bool) (is : sure ≡ true → (value : I) → test value x ≡ true) where
  pub always-passed : sure ≡ every → ((value : I) → each_or_some every (test value) (drop (i + 1) xs) ≡ true) → (value : I) → each_or_some every (test value) (drop i xs) ≡ true
  always-passed same rest value = ap (each_or_some every (test value)) (left (test value) xs i x within read) ∙ by every same rest
    where
      by : (each : Bool) → sure ≡ each → ((value : I) → each_or_some each (test value) (drop (i + 1) xs) ≡ true) → each_or_some each (test value) (x ∷ drop (i + 1) xs) ≡ true
      by true same rest = and_from (test value x) _ (is same value) (rest value)
      by false same rest = or_right (test value x) _ (rest value)

-- two tests tell the same
pub each-alike : {A : Type 0} (p q : A → Bool) (xs : List A) → All (λ x. p x ≡ q x) xs → (every : Bool) → each_or_some every p xs ≡ each_or_some every q xs
each-alike p q [] same true = refl
each-alike p q [] same false = refl
each-alike p q (x ∷ xs) same true = λ i. All-head (λ x. p x ≡ q x) x xs same i && each-alike p q xs (All-tail (λ x. p x ≡ q x) x xs same) true i
each-alike p q (x ∷ xs) same false = λ i. All-head (λ x. p x ≡ q x) x xs same i || each-alike p q xs (All-tail (λ x. p x ≡ q x) x xs same) false i
