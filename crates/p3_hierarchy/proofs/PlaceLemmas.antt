-- Places of words in a table.
use Rattle.std.proofs.Common.{◌≡◌, ℕ, ◌≤◌, Bool, true, false, not, cond, List, length, Some, None, refl, nat_lt, arith}
use Rattle.std.specs.Prelude.{position}
use Rattle.std.specs.List.{position_or_len}
use Rattle.std.proofs.lemmas.List.Sums.{prefix_len-le-length}
use borrow.Author.Tests.{ltb-false}

module _ {A : Type 0} (test : A → Bool) (xs : List A) where
  pub place-none : None ≡ position test xs → length xs ≡ position_or_len test xs
  place-none none = by (nat_lt (position_or_len test xs) (length xs)) refl none
    where
      by : (b : Bool) → nat_lt (position_or_len test xs) (length xs) ≡ b → None ≡ cond b (Some (position_or_len test xs)) None → length xs ≡ position_or_len test xs
      by true is none = absurd (cc)
      by false is none =
          let low : length xs ≤ position_or_len test xs = ltb-false (position_or_len test xs) (length xs) is in
          let high : position_or_len test xs ≤ length xs = prefix_len-le-length (λ x. not (test x)) xs in
          omega (arith, low, high)

  pub place-some : (place : ℕ) → Some place ≡ position test xs → place ≡ position_or_len test xs
  place-some place some = by (nat_lt (position_or_len test xs) (length xs)) some
    where
      by : (b : Bool) → Some place ≡ cond b (Some (position_or_len test xs)) None → place ≡ position_or_len test xs
      by true some = cc
      by false some = absurd (cc)
