-- What is cut early is the same once all is cut.
use Rattle.std.proofs.Common.{◌≡◌, ◌∙◌, ℕ, ◌+◌, ◌*◌, ◌-◌, ◌<◌, ◌≤◌, ◌^◌, min, nat_lt, List, [], ◌∷◌, map, sum, length, refl, sym, ap, arith, zero, suc, ◌⊎◌, inl, inr}
use Rattle.std.specs.Prelude.{fold}
use Rattle.std.proofs.Math.Nat.{mul_assoc}
use Rattle.std.proofs.lemmas.Bool.{cases_lt}
use Rattle.std.proofs.lemmas.Bool.Decides.{nat_tests}
use Rattle.p3_numbers.specs.Choices.{choice_count}
use Rattle.p3_numbers.specs.Slots.{range_at}
use Rattle.p3_numbers.specs.declared.numbers.Numbers.{Numbers}
use Rattle.p3_limits.specs.Cuts.{cut, cut_choices, cut_sum}
use Rattle.p3_limits.specs.Sizes.{above, above_two, above_each}

-- ---- sums and products

min-times : (m a b : ℕ) → min (min a m * b) m ≡ min (a * b) m
min-times m a zero = omega arith
min-times m a (suc b) = by (cases_lt m a)
  where
    by : (m < a) ⊎ (a ≤ m) → min (min a m * suc b) m ≡ min (a * suc b) m
    by (inl greater) = let e : min a m ≡ m = omega arith in ap (λ n. min (n * suc b) m) e ∙ omega arith
    by (inr within) = let e : min a m ≡ a = omega arith in ap (λ n. min (n * suc b) m) e

pub cut-zero : 0 ≡ cut 0
unfolding cut
cut-zero = refl

pub cut-one : 1 ≡ cut 1
unfolding cut
cut-one = refl

pub cut-plus : (a b : ℕ) → cut (cut a + b) ≡ cut (a + b)
unfolding cut
cut-plus a b = omega arith

pub cut-plus_right : (a b : ℕ) → cut (a + cut b) ≡ cut (a + b)
unfolding cut
cut-plus_right a b = omega arith

pub cut-times : (a b : ℕ) → cut (cut a * b) ≡ cut (a * b)
unfolding cut
cut-times a b = min-times (2 ^ 64 - 1) a b

pub cut-times_right : (a b : ℕ) → cut (a * cut b) ≡ cut (a * b)
cut-times_right a b =
    let turned : a * cut b ≡ cut b * a = omega arith in
    let back : b * a ≡ a * b = omega arith in
    ap cut turned ∙ cut-times b a ∙ ap cut back

pub cut-product : (a b : ℕ) → cut (cut a * cut b) ≡ cut (a * b)
cut-product a b = cut-times a (cut b) ∙ cut-times_right a b

-- ---- lists of sizes

fold-from : (a b : ℕ) (xs : List ℕ) → fold ◌+◌ (a + b) xs ≡ a + fold ◌+◌ b xs
fold-from a b [] = refl
fold-from a b (x ∷ xs) = let e : a + b + x ≡ a + (b + x) = omega arith in ap (λ n. fold ◌+◌ n xs) e ∙ fold-from a (b + x) xs

pub sum-cons : (x : ℕ) (xs : List ℕ) → sum (x ∷ xs) ≡ x + sum xs
sum-cons x xs = let e : 0 + x ≡ x + 0 = omega arith in ap (λ n. fold ◌+◌ n xs) e ∙ fold-from x 0 xs

cut-total-from : (start : ℕ) (sizes : List ℕ) → cut_sum (cut start) (map cut sizes) ≡ cut (start + sum sizes)
cut-total-from start [] = let e : start ≡ start + 0 = omega arith in ap cut e
cut-total-from start (size ∷ sizes) =
    let e : start + size + sum sizes ≡ start + (size + sum sizes) = omega arith in
    ap (λ n. cut_sum n (map cut sizes)) (cut-plus start (cut size) ∙ cut-plus_right start size) ∙ cut-total-from (start + size) sizes ∙ ap cut e
    ∙ ap (λ n. cut (start + n)) (sym (sum-cons size sizes))

pub cut-total-one : (sizes : List ℕ) → cut_sum 1 (map cut sizes) ≡ cut (1 + sum sizes)
cut-total-one sizes = ap (λ n. cut_sum n (map cut sizes)) cut-one ∙ cut-total-from 1 sizes

pub cut-total-zero : (sizes : List ℕ) → cut_sum 0 (map cut sizes) ≡ cut (sum sizes)
cut-total-zero sizes = let e : 0 + sum sizes ≡ sum sizes = omega arith in ap (λ n. cut_sum n (map cut sizes)) cut-zero ∙ cut-total-from 0 sizes ∙ ap cut e

-- ---- choices

module _ (N : Numbers) where
  cut-choices-from : (start : ℕ) (ranges : List ℕ)
      → fold (λ product range. cut (product * length (range_at N range))) (cut start) ranges ≡ cut (start * choice_count N ranges)
  unfolding choice_count
  cut-choices-from start [] = let one : start ≡ start * 1 = omega arith in ap cut one
  cut-choices-from start (range ∷ ranges) =
      ap (λ n. fold (λ product range. cut (product * length (range_at N range))) n ranges) (cut-times start (length (range_at N range))) ∙ cut-choices-from (start * length (range_at N range)) ranges
      ∙ ap cut (mul_assoc start (length (range_at N range)) (choice_count N ranges))

  pub cut-choices : (ranges : List ℕ) → cut_choices N ranges ≡ cut (choice_count N ranges)
  cut-choices ranges = ap (λ n. fold (λ product range. cut (product * length (range_at N range))) n ranges) cut-one ∙ cut-choices-from 1 ranges ∙ ap cut (let one : 1 * choice_count N ranges ≡ choice_count N ranges = omega arith in one)

  -- an empty range makes the product 0, whatever was cut before
  pub cut-each : (ranges : List ℕ) (count : ℕ) → cut (cut_choices N ranges * cut count) ≡ cut (choice_count N ranges * count)
  cut-each ranges count = ap (λ n. cut (n * cut count)) (cut-choices ranges) ∙ cut-product (choice_count N ranges) count

-- ---- trees above parts

pub cut-above : (part : ℕ) → above (cut part) ≡ cut (1 + part)
cut-above part = cut-plus_right 1 part

pub cut-above_two : (first second : ℕ) → above_two (cut first) (cut second) ≡ cut (1 + first + second)
cut-above_two first second = ap (λ n. cut (n + cut second)) (cut-above first) ∙ cut-plus (1 + first) (cut second) ∙ cut-plus_right (1 + first) second

pub cut-above_each : (N : Numbers) (ranges : List ℕ) (body : ℕ) → above_each (cut_choices N ranges) (cut body) ≡ cut (1 + choice_count N ranges * body)
cut-above_each N ranges body = ap above (cut-each N ranges body) ∙ cut-above (choice_count N ranges * body)

-- ---- a limit below the cut tells the two apart

pub cut-passes : (limit n : ℕ) → limit < 2 ^ 62 → nat_lt limit (cut n) ≡ nat_lt limit n
unfolding cut
cut-passes limit n low = grind (arith, nat_tests)

pub cut-left : (limit n : ℕ) → limit < 2 ^ 62 → limit - cut n ≡ limit - n
unfolding cut
cut-left limit n low = omega arith

-- ---- counts that are compared with a place

-- a place below a count that was cut is below the count
pub cut-below : (place n : ℕ) → place < 2 ^ 32 → place < cut n → place < n
unfolding cut
cut-below place n low below = omega arith

-- a count that is not above a place was not cut
pub cut-least : (n count place : ℕ) → place < 2 ^ 32 → count ≡ cut n → count ≤ place → n ≡ count
unfolding cut
cut-least n count place low is least = omega arith

cut-whole : (n count : ℕ) → count ≡ cut n → count < 2 ^ 32 → count ≡ n
unfolding cut
cut-whole n count is low = omega arith

cut-most : (n count : ℕ) → count ≡ cut n → count ≤ n
unfolding cut
cut-most n count is = omega arith

pub cut-cases : (n count : ℕ) → count ≡ cut n → ((count ≡ n) ⊎ (2 ^ 32 ≤ count)) × (count ≤ n)
cut-cases n count is = (by (cases_lt count (2 ^ 32)), cut-most n count is)
  where
    by : (count < 2 ^ 32) ⊎ (2 ^ 32 ≤ count) → (count ≡ n) ⊎ (2 ^ 32 ≤ count)
    by (inl low) = inl (cut-whole n count is low)
    by (inr great) = inr great

pub cut-empty : (n : ℕ) → cut n ≡ 0 → n ≡ 0
unfolding cut
cut-empty n none = omega arith
