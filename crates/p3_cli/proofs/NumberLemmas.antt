-- The number of a sample is found where its digits are the word.
use Rattle.std.proofs.Common.{◌≡◌, ◌∙◌, ℕ, ◌+◌, ◌-◌, ◌<◌, ◌≤◌, ◌^◌, Bool, true, false, Some, None, arith, ap, sym, refl}
use Rattle.std.specs.Prelude.{bytes_eq, find, if◌then◌else◌, zero, suc}
use Rattle.std.specs.Fmt.{decimal}
use Rattle.std.specs.List.{range_with_len}
use Rattle.std.proofs.lemmas.Slice.Eq.{bytes_eq-Decides}
use Rattle.std.proofs.lemmas.Fmt.{decimal_injective}
use Rattle.p3_tree.specs.Commands.{Word, sample_number, sample_limit}

module _ (word : Word) where
  abbrev is_it : ℕ → Bool
  is_it n = bytes_eq word (decimal n)

  not_it : (n : ℕ) → (decimal n ≡ word → ⊥) → (b : Bool) → is_it n ≡ b → b ≡ false
  not_it n other true e = absurd (other (sym ((bytes_eq-Decides word (decimal n)).0 e)))
  not_it n other false e = refl

  -- no number of the range is the word
  none_in : (first count : ℕ) → ((n : ℕ) → first ≤ n → n < first + count → decimal n ≡ word → ⊥) → find is_it (range_with_len first count) ≡ None
  none_in first zero other = refl
  none_in first (suc count) other =
      ap (λ b. if b then Some first else find is_it (range_with_len (first + 1) count)) (not_it first (other first (omega arith) (omega arith)) (is_it first) refl)
      ∙ none_in (first + 1) count (λ n low high. other n (omega (arith, low)) (omega (arith, high)))

  -- the number that is the word is found
  found_at : (d first count number : ℕ) → number ≡ first + d → d < count → number < 2 ^ 64 → decimal number ≡ word → find is_it (range_with_len first count) ≡ Some number
  found_at d first zero number sum within small is = absurd (omega (arith, within))
  found_at zero first (suc count) number sum within small is =
      let same : first ≡ number = omega (arith, sum) in
      ap (λ b. if b then Some first else find is_it (range_with_len (first + 1) count)) ((bytes_eq-Decides word (decimal first)).1 (sym is ∙ ap decimal (sym same))) ∙ ap Some same
  found_at (suc d) first (suc count) number sum within small is =
      let apart : decimal first ≡ word → ⊥ = λ e. let same = decimal_injective first number (omega (arith, sum, small)) small (e ∙ sym is) in omega (arith, same, sum) in
      ap (λ b. if b then Some first else find is_it (range_with_len (first + 1) count)) (not_it first apart (is_it first) refl)
      ∙ found_at d (first + 1) count number (omega (arith, sum)) (omega (arith, within)) small is

  pub number_is : (number : ℕ) → 1 ≤ number → number ≤ sample_limit → decimal number ≡ word → Some number ≡ sample_number word
  number_is number low high is = sym (found_at (number - 1) 1 200 number (omega (arith, low)) (omega (arith, low, high)) (omega (arith, high)) is)

  pub no_number : ((n : ℕ) → 1 ≤ n → n ≤ sample_limit → decimal n ≡ word → ⊥) → None ≡ sample_number word
  no_number other = sym (none_in 1 200 (λ n low high. other n low (omega (arith, high))))

  -- a number out of the range is none of it
  pub other_number : (number : ℕ) → number < 2 ^ 64 → decimal number ≡ word → (1 ≤ number → number ≤ sample_limit → ⊥) → None ≡ sample_number word
  other_number number small is out =
      no_number (λ n low high same.
      let one = decimal_injective n number (omega (arith, high)) small (same ∙ sym is) in out (omega (arith, low, one)) (omega (arith, high, one)))
