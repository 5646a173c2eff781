-- The candidates among some choices, one more at a time.
use Rattle.std.proofs.Common.{◌≡◌, ◌∙◌, ℕ, ◌+◌, ◌-◌, ◌<◌, ◌≤◌, Bool, true, false, if◌then◌else◌, List, [], ◌∷◌, ◌++◌, length, take, get_or, map, sym, ap, refl, arith}
use Rattle.std.specs.List.{All, filter}
use Rattle.std.proofs.lemmas.List.{append-nil, map-append, take_more, take_all}
use Rattle.std.proofs.lemmas.List.Elements.{All-cons, All-filter, All-head, All-nil, All-tail, filter-append}
use Rattle.p3_numbers.specs.Choices.{choice}
use Rattle.p3_numbers.specs.declared.goal.NumberedGoal.{NumberedGoal}
use Rattle.p3_numbers.specs.declared.numbers.Numbers.{Numbers}
use Rattle.p3_expansion.specs.declared.statics.Statics.{Statics}
use Rattle.p3_steps.specs.Candidates.{open_among}
use Rattle.p3_steps.specs.Possible.{may_yet_begin}

kept-or-not : (xs : List ℕ) (x : ℕ) (b : Bool) → (if b then xs ++ x ∷ [] else xs) ≡ xs ++ (if b then x ∷ [] else [])
kept-or-not xs x true = refl
kept-or-not xs x false = sym (append-nil xs)

module _ (N : Numbers) (S : Statics) (ranges : List ℕ) (goal : NumberedGoal) (first : ℕ) (those : List ℕ) where
  abbrev may_at : ℕ → Bool
  may_at number = may_yet_begin N S (choice N ranges number) goal

  pub among-more : (i number : ℕ) (may : Bool) (kept later : List ℕ) → i < length those → number ≡ get_or those i 0 → may ≡ may_at (number - first)
      → kept ≡ open_among N S ranges goal first (take i those) → later ≡ (if may then kept ++ (number - first) ∷ [] else kept)
      → later ≡ open_among N S ranges goal first (take (i + 1) those)
  among-more i number may kept later within read is before keeps =
      keeps
      ∙ (λ j. if is j then before j ++ (number - first) ∷ [] else before j)
      ∙ kept-or-not (open_among N S ranges goal first (take i those)) (number - first) (may_at (number - first))
      ∙ sym (filter-append may_at (map (λ number. number - first) (take i those)) ((number - first) ∷ []))
      ∙ ap (filter may_at) (sym (map-append (λ number. number - first) (take i those) (number ∷ [])))
      ∙ ap (λ list. filter may_at (map (λ number. number - first) list)) (sym (take_more those i 0 within ∙ ap (λ item. take i those ++ item ∷ []) (sym read)))

  pub among-all : (i : ℕ) → length those ≤ i → open_among N S ranges goal first (take i those) ≡ open_among N S ranges goal first those
  among-all i past = ap (open_among N S ranges goal first) (take_all i those past)

  -- they are below the count of choices
  below-map : (count : ℕ) (numbers : List ℕ) → All (λ n. first ≤ n) numbers → All (λ n. n < first + count) numbers → All (λ n. n < count) (map (λ n. n - first) numbers)
  below-map count [] from within = All-nil (λ n. n < count)
  below-map count (n ∷ numbers) from within =
      let low = All-head (λ n. first ≤ n) n numbers from in
      let high = All-head (λ n. n < first + count) n numbers within in
      All-cons (λ n. n < count) (n - first) (map (λ n. n - first) numbers) (omega (arith, low, high)) (below-map count numbers (All-tail (λ n. first ≤ n) n numbers from) (All-tail (λ n. n < first + count) n numbers within))

  pub among-below : (test : ℕ → Bool) (count : ℕ) → All (λ n. first ≤ n) those → All (λ n. n < first + count) those → All (λ n. n < count) (filter test (map (λ n. n - first) those))
  among-below test count from within = All-filter test (λ n. n < count) (map (λ n. n - first) those) (below-map count those from within)
