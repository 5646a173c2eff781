-- Items of lists, and the first one that passes a test.
use Rattle.std.proofs.Common.{◌≡◌, ◌∙◌, ℕ, zero, suc, ◌+◌, ◌<◌, nat_lt, Bool, true, false, cond, List, [], ◌∷◌, ◌++◌, length, take, drop, get_or, refl, sym, ap, subst, arith, true≢false}
use Rattle.std.specs.Prelude.{Some, None, is_some, unwrap_or, slice_get}
use Rattle.std.specs.List.{AllWithin, HoldsAt, position, position_or_len}
use Rattle.std.proofs.lemmas.Bool.Decides.{nat_tests}
use Rattle.std.proofs.lemmas.List.{get_or_default, take_more}
use Rattle.std.proofs.lemmas.List.Sums.{position_or_len_is}

pub none_no_some : {A : Type 0} (x : A) → None ≡ Some x → ⊥
none_no_some x e = true≢false (sym (ap is_some e))

pub some_is : {A : Type 0} (x y : A) → Some x ≡ Some y → x ≡ y
some_is x y e = ap (λ o. unwrap_or o x) e

pub nil_no_cons : {A : Type 0} {x : A} {xs : List A} → [] ≡ x ∷ xs → ⊥
nil_no_cons {x = x} {xs = xs} e = let lengths : 0 ≡ suc (length xs) = ap length e in omega (arith, lengths)

pub head_is : {A : Type 0} {x y : A} {xs ys : List A} → x ∷ xs ≡ y ∷ ys → x ≡ y
head_is {x = x} e = ap (λ list. get_or list 0 x) e

pub tail_is : {A : Type 0} {x y : A} {xs ys : List A} → x ∷ xs ≡ y ∷ ys → xs ≡ ys
tail_is e = ap (drop 1) e

-- one item more is taken
pub front : {A : Type 0} (xs : List A) (i : ℕ) (x : A) → i < length xs → x ≡ get_or xs i x → take (i + 1) xs ≡ take i xs ++ x ∷ []
front xs i x within is = take_more xs i x within ∙ ap (λ one. take i xs ++ one ∷ []) (sym is)

-- what is so of the item is so at its place
pub at_place : {A : Type 0} (P : A → Type 0) (xs : List A) (i : ℕ) (x : A) → i < length xs → x ≡ get_or xs i x → P x → HoldsAt P xs i
at_place P xs i x within is holds d = subst P (is ∙ get_or_default xs i x d within) holds

pub get-left : {A : Type 0} (xs ys : List A) (k : ℕ) (x : A) → slice_get xs k ≡ Some x → slice_get (xs ++ ys) k ≡ Some x
get-left [] ys k x h = absurd (none_no_some x h)
get-left (y ∷ xs) ys zero x h = h
get-left (y ∷ xs) ys (suc k) x h = get-left xs ys k x h

module _ {A : Type 0} (test : A → Bool) where
  -- the item passes, and none before it does
  pub first_is : (xs : List A) (i : ℕ) (x : A) → i < length xs → x ≡ get_or xs i x → AllWithin (λ y. test y ≡ false) xs 0 i → test x ≡ true → position test xs ≡ Some i
  first_is xs i x within is fail passes =
      let first = position_or_len_is test xs i x (omega (arith, within)) (λ k below. fail k x (omega arith) below) (λ inside. ap test (sym is) ∙ passes) in
      let inside : nat_lt (position_or_len test xs) (length xs) ≡ true = grind (arith, nat_tests, first, within) in
      ap (λ b. cond b (Some (position_or_len test xs)) None) inside ∙ ap Some first

  -- none of them does
  pub none_is : (xs : List A) → AllWithin (λ y. test y ≡ false) xs 0 (length xs) → position test xs ≡ None
  none_is [] fail = refl
  none_is (x ∷ xs) fail =
      let first = position_or_len_is test (x ∷ xs) (length (x ∷ xs)) x (omega arith) (λ k below. fail k x (omega arith) below) (λ inside. absurd (omega (arith, inside))) in
      let outside : nat_lt (position_or_len test (x ∷ xs)) (length (x ∷ xs)) ≡ false = grind (arith, nat_tests, first) in
      ap (λ b. cond b (Some (position_or_len test (x ∷ xs))) None) outside
