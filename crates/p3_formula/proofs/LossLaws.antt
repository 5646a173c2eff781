-- The loss by names and the loss by instances: each instance that is violated adds the weight of its name.
use Rattle.std.proofs.Common.{◌≡◌, ◌∙◌, ◌≢◌, ℕ, zero, suc, ◌+◌, ◌*◌, ◌<◌, ◌≤◌, Bool, true, false, ◌&&◌, cond, List, [], ◌∷◌, length, sum_by, Option, Some, None, refl, sym, ap, arith}
use Rattle.std.specs.Prelude.{◌==◌, count_by, slice_index_or, nat_lt}
use Rattle.std.specs.List.{range_with_len}
use native.Mathlib.Nat.{mul-add, mul-one, mul-zero}
use Rattle.std.proofs.Math.Bool.{and-true}
use Rattle.std.proofs.lemmas.Bool.Decides.{nat_tests}
use Rattle.std.proofs.lemmas.List.Sums.{sum_by-cons}
use Rattle.std.proofs.Math.ListN.{get_or-eq_default}
use Rattle.p3_formula.specs.GroundPlans.{is_numbered}
use Rattle.p3_formula.specs.Weighted.{named_weight}

-- one more where the test passes
one_more_of : (w c : ℕ) (b : Bool) → w * (cond b 1 0 + c) ≡ cond b w 0 + w * c
one_more_of w c true = mul-add w 1 c ∙ ap (λ x. x + w * c) (mul-one w)
one_more_of w c false = mul-add w 0 c ∙ ap (λ x. x + w * c) (mul-zero w)

add_up : (f g : ℕ → ℕ) (xs : List ℕ) → sum_by (λ n. f n + g n) xs ≡ sum_by f xs + sum_by g xs
add_up f g [] = refl
add_up f g (x ∷ xs) =
    let a = sum_by-cons (λ n. f n + g n) x xs in let b = sum_by-cons f x xs in let c = sum_by-cons g x xs in let d = add_up f g xs in
    omega (arith, a, b, c, d)

nothing : (xs : List ℕ) → sum_by (λ n. 0) xs ≡ 0
nothing [] = refl
nothing (x ∷ xs) = let a = sum_by-cons (λ n. 0) x xs in let b = nothing xs in omega (arith, a, b)

and-false : (b : Bool) → (b && false) ≡ false
and-false true = refl
and-false false = refl

module _ (w : ℕ → ℕ) where
  -- a number that is not in the range adds nothing
  outside : (m : ℕ) (count from : ℕ) → m < from → sum_by (λ n. cond (m == n) (w n) 0) (range_with_len from count) ≡ 0
  outside m zero from low = refl
  outside m (suc count) from low =
      let none : (m == from) ≡ false = grind (arith, nat_tests, low) in
      sum_by-cons (λ n. cond (m == n) (w n) 0) from (range_with_len (from + 1) count) ∙ (λ i. cond (none i) (w from) 0 + outside m count (from + 1) (omega (arith, low)) i)

  -- one that is adds its weight, once
  inside : (m : ℕ) (count from : ℕ) → from ≤ m → m < from + count → sum_by (λ n. cond (m == n) (w n) 0) (range_with_len from count) ≡ w m
  inside m zero from low high = absurd (omega (arith, low, high))
  inside m (suc count) from low high = sum_by-cons (λ n. cond (m == n) (w n) 0) from (range_with_len (from + 1) count) ∙ by (m == from) refl (inside m count (from + 1))
    where
      rest : ℕ
      rest = sum_by (λ n. cond (m == n) (w n) 0) (range_with_len (from + 1) count)

      by : (b : Bool) → (m == from) ≡ b → (from + 1 ≤ m → m < from + 1 + count → rest ≡ w m) → cond (m == from) (w from) 0 + rest ≡ w m
      by true e later =
          let same : from ≡ m = grind (arith, nat_tests, e) in
          let none : rest ≡ 0 = outside m count (from + 1) (omega (arith, same)) in
          (λ i. cond (e i) (w from) 0 + none i) ∙ omega arith ∙ ap w same
      by false e later =
          let apart : from ≢ m = λ same. absurd (let bad : (m == from) ≡ true = grind (arith, nat_tests, same) in let wrong : true ≡ false = sym bad ∙ e in cc) in
          (λ i. cond (e i) (w from) 0 + later (omega (arith, low, apart)) (omega (arith, high)) i) ∙ omega arith

  -- nor does one behind the range
  beyond : (m : ℕ) (count from : ℕ) → from + count ≤ m → sum_by (λ n. cond (m == n) (w n) 0) (range_with_len from count) ≡ 0
  beyond m zero from high = refl
  beyond m (suc count) from high =
      let none : (m == from) ≡ false = grind (arith, nat_tests, high) in
      sum_by-cons (λ n. cond (m == n) (w n) 0) from (range_with_len (from + 1) count) ∙ (λ i. cond (none i) (w from) 0 + beyond m count (from + 1) (omega (arith, high)) i)

  no_weight : (xs : List ℕ) → sum_by (λ n. w n * 0) xs ≡ 0
  no_weight [] = refl
  no_weight (x ∷ xs) = sum_by-cons (λ n. w n * 0) x xs ∙ (λ i. mul-zero (w x) i + no_weight xs i)

module _ {A : Type 0} (name_of : A → Option ℕ) (is_bad : A → Bool) (by_name : List ℕ) where
  abbrev weight : ℕ → ℕ
  weight n = slice_index_or by_name n 0

  -- an instance counts for its name
  abbrev counts : ℕ → A → Bool
  counts n a = is_numbered n (name_of a) && is_bad a

  abbrev names : List ℕ
  names = range_with_len 0 (length by_name)

  -- what an instance adds over all names
  adds : (name : Option ℕ) (b : Bool) → sum_by (λ n. cond (is_numbered n name && b) (weight n) 0) names ≡ cond b (named_weight by_name name) 0
  adds None true = nothing names
  adds None false = nothing names
  adds (Some m) false = (λ i. sum_by (λ n. cond (and-false (m == n) i) (weight n) 0) names) ∙ nothing names
  adds (Some m) true = (λ i. sum_by (λ n. cond (and-true (m == n) i) (weight n) 0) names) ∙ by (nat_lt m (length by_name)) refl
    where
      by : (b : Bool) → nat_lt m (length by_name) ≡ b → sum_by (λ n. cond (m == n) (weight n) 0) names ≡ weight m
      by true e = inside weight m (length by_name) 0 (omega arith) (grind (arith, nat_tests, e))
      by false e = let far : length by_name ≤ m = grind (arith, nat_tests, e) in beyond weight m (length by_name) 0 (omega (arith, far)) ∙ sym (get_or-eq_default by_name 0 far)

  pub loss_by_instances : (all : List A) → sum_by (λ n. weight n * count_by (counts n) all) names ≡ sum_by (λ a. cond (is_bad a) (named_weight by_name (name_of a)) 0) all
  loss_by_instances [] = no_weight weight names
  loss_by_instances (a ∷ all) =
      (λ i. sum_by (λ n. (ap (λ count. weight n * count) (sum_by-cons (λ x. cond (counts n x) 1 0) a all) ∙ one_more_of (weight n) (count_by (counts n) all) (counts n a)) i) names)
      ∙ add_up (λ n. cond (counts n a) (weight n) 0) (λ n. weight n * count_by (counts n) all) names
      ∙ (λ i. adds (name_of a) (is_bad a) i + loss_by_instances all i)
      ∙ sym (sum_by-cons (λ x. cond (is_bad x) (named_weight by_name (name_of x)) 0) a all)
