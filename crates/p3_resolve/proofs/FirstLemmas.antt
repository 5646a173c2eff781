-- The first item of each name.
use Rattle.std.proofs.Common.{◌≡◌, ◌∙◌, ℕ, ◌+◌, ◌<◌, Bool, true, false, if◌then◌else◌, cond, nat_lt, List, [], ◌∷◌, ◌++◌, Option, Some, None, refl, sym, ap, length, take, get_or, arith, suc}
use Rattle.std.specs.Option.{option_or}
use Rattle.std.specs.Prelude.{position, option_map, not}
use Rattle.std.specs.List.{position_or_len}
use Rattle.std.proofs.lemmas.List.{take_more, length-take-le}
use denote.Ref.{Bor}
use Rattle.p3_task.specs.declared.term.Ref.{Ref}
use Rattle.p3_resolve.specs.Tables.{AddsFirst, FindsFirst, is_called}

less-more : (place count : ℕ) → nat_lt (1 + place) (suc count) ≡ nat_lt place count
less-more place count = by (nat_lt place count) refl
  where
    by : (less : Bool) → nat_lt place count ≡ less → nat_lt (1 + place) (suc count) ≡ less
    by true is = grind (arith, is)
    by false is = grind (arith, is)

first-less : (count : ℕ) → nat_lt 0 (suc count) ≡ true
first-less count = grind arith

module _ {A : Type 0} (test : A → Bool) where
  behind : (passes : Bool) (found : Option ℕ) (count : ℕ) → option_map (λ place. 1 + place) (option_or found (if passes then Some count else None))
      ≡ option_or (option_map (λ place. 1 + place) found) (if passes then Some (suc count) else None)
  behind true None count = ap Some (omega arith)
  behind false None count = refl
  behind passes (Some place) count = refl

  position-cons : (x : A) (xs : List A) → test x ≡ false → position test (x ∷ xs) ≡ option_map (λ place. 1 + place) (position test xs)
  position-cons x xs is =
      (λ i. cond (nat_lt (cond (not (is i)) (1 + position_or_len test xs) 0) (length (x ∷ xs))) (Some (cond (not (is i)) (1 + position_or_len test xs) 0)) None)
      ∙ (λ i. cond (less-more (position_or_len test xs) (length xs) i) (Some (1 + position_or_len test xs)) None) ∙ by (nat_lt (position_or_len test xs) (length xs))
    where
      by : (less : Bool) → cond less (Some (1 + position_or_len test xs)) None ≡ option_map (λ place. 1 + place) (cond less (Some (position_or_len test xs)) None)
      by true = refl
      by false = refl

  position-first : (x : A) (xs : List A) → test x ≡ true → position test (x ∷ xs) ≡ Some 0
  position-first x xs is =
      (λ i. cond (nat_lt (cond (not (is i)) (1 + position_or_len test xs) 0) (length (x ∷ xs))) (Some (cond (not (is i)) (1 + position_or_len test xs) 0)) None)
      ∙ (λ i. cond (first-less (length xs) i) (Some 0) None)

  -- an item more
  position-push : (xs : List A) (x : A) → position test (xs ++ x ∷ []) ≡ option_or (position test xs) (if test x then Some (length xs) else None)
  position-push [] x = by (test x) refl
    where
      by : (passes : Bool) → test x ≡ passes → position test (x ∷ []) ≡ (if passes then Some 0 else None)
      by true is = position-first x [] is
      by false is = position-cons x [] is
  position-push (y ∷ xs) x = by (test y) refl (position-push xs x)
    where
      by : (passes : Bool) → test y ≡ passes → position test (xs ++ x ∷ []) ≡ option_or (position test xs) (if test x then Some (length xs) else None)
          → position test (y ∷ xs ++ x ∷ []) ≡ option_or (position test (y ∷ xs)) (if test x then Some (length (y ∷ xs)) else None)
      by true is rest = position-first y (xs ++ x ∷ []) is ∙ (λ i. option_or (sym (position-first y xs is) i) (if test x then Some (length (y ∷ xs)) else None))
      by false is rest =
          position-cons y (xs ++ x ∷ []) is ∙ ap (option_map (λ place. 1 + place)) rest ∙ behind (test x) (position test xs) (length xs)
          ∙ (λ i. option_or (sym (position-cons y xs is) i) (if test x then Some (length (y ∷ xs)) else None))

pub finds-more : {A : Type 0} (word_of : A → Ref) (items : List A) (i : ℕ) (x : A) (old new : Bor (List ℕ) → Option ℕ) → i < length items → x ≡ get_or items i x
    → FindsFirst word_of (take i items) old → AddsFirst word_of old i x new → FindsFirst word_of (take (i + 1) items) new
finds-more word_of items i x old new within read finds adds = λ j name.
    (adds name ∙ (λ k. option_or (finds k name) (if is_called word_of name.now x then Some (sym count k) else None))
    ∙ sym (position-push (is_called word_of name.now) (take i items) x)
    ∙ ap (position (is_called word_of name.now)) (sym (take_more items i x within ∙ ap (λ item. take i items ++ item ∷ []) (sym read)))) j
  where
    count : length (take i items) ≡ i
    count = length-take-le i items (omega (arith, within))
