-- Bounds of numbers within the bound of weights, and of products.
use Rattle.std.proofs.Common.{◌≡◌, ◌∙◌, ℕ, ◌-◌, ◌*◌, ◌^◌, ◌<◌, ◌≤◌, Bool, true, ap, sym, subst, arith, pos, ◌+ℤ◌, ◌*ℤ◌, neg_ℤ, zero, suc, refl, FitsSigned}
use Rattle.std.specs.Prelude.{ℤ, negsuc, nat_lt, max}
use Rattle.std.specs.Int.RustNames.{unsigned_abs}
use Rattle.std.proofs.lemmas.Int.{to_z-of_z, unsigned_abs-mul, fits_signed_from_abs}
use Rattle.std.proofs.lemmas.Nat.{mul-lt}
use Rattle.std.proofs.Math.IntN.{*ℤ_comm}
use Rattle.p3_metric.proofs.IntegerLemmas.{neg_times}
use Rattle.p3_metric.specs.Entries.{number_at}
use borrow.Author.Tests.{ltb-true}
use mir.Syntax.{w128}
use mir.Val.{SFits, of_z, to_z}
use Rattle.p3_task.specs.Refusals.Metric.{is_within}
use Rattle.p3_task.specs.Sides.{weight_bound}
use Rattle.p3_metric.specs.Forms.{combined, IsBounded, IsScaled}
use Rattle.p3_metric.specs.declared.linear.Linear.{Linear}
use Rattle.p3_metric.proofs.EntryLemmas.{within_is, abs_sum, one_times}

pub within_below : (z : ℤ) → is_within weight_bound z ≡ true → unsigned_abs z < 2 ^ 62
within_below z e = ltb-true (unsigned_abs z) weight_bound (sym (within_is weight_bound z) ∙ e)

pub product_below : (a b : ℤ) (m n bound : ℕ) → unsigned_abs a < m → unsigned_abs b < n → m * n ≤ bound → unsigned_abs (a *ℤ b) < bound
product_below a b m n bound p q le = let e = unsigned_abs-mul a b in let h = mul-lt (unsigned_abs a) (unsigned_abs b) m n p q in omega (arith, e, h, le)

pub mixed_sum_below : (a b c d : ℤ) → unsigned_abs a < 2 ^ 64 → unsigned_abs b < 2 ^ 20 → unsigned_abs c < 2 ^ 64 → unsigned_abs d < 2 ^ 20 → unsigned_abs (a *ℤ b +ℤ c *ℤ d) < 2 ^ 127
mixed_sum_below a b c d p q r s =
    let first = product_below a b (2 ^ 64) (2 ^ 20) (2 ^ 84) p q (omega arith) in
    let second = product_below c d (2 ^ 64) (2 ^ 20) (2 ^ 84) r s (omega arith) in
    let sum = abs_sum (a *ℤ b) (c *ℤ d) in omega (arith, first, second, sum)

-- what the code passes on is the number itself
pub passed_within : (z : ℤ) → SFits w128 z → (b : Bool) → b ≡ is_within weight_bound (to_z w128 (of_z w128 z)) → b ≡ is_within weight_bound z
passed_within z fits b e = e ∙ ap (is_within weight_bound) (to_z-of_z w128 z fits)

pub passed_below : (z : ℤ) (bound : ℕ) → bound ≤ 2 ^ 127 → unsigned_abs z < bound → unsigned_abs (to_z w128 (of_z w128 z)) < bound
passed_below z bound le h = let e = ap unsigned_abs (to_z-of_z w128 z (fits_signed_from_abs w128 z (omega arith))) in omega (arith, e, h)

pub passed_factor_below : (factor number : ℤ) (m n bound : ℕ) → m ≤ 2 ^ 127 → unsigned_abs factor < m → unsigned_abs number < n → m * n ≤ bound → unsigned_abs (to_z w128 (of_z w128 factor) *ℤ number) < bound
passed_factor_below factor number m n bound le p q most = product_below (to_z w128 (of_z w128 factor)) number m n bound (passed_below factor m le p) q most

-- a product of passed numbers fits
pub passed_product_fits : (a b : ℤ) → SFits w128 a → SFits w128 b → unsigned_abs (a *ℤ b) < 2 ^ 127 → FitsSigned w128 (to_z w128 (of_z w128 a) *ℤ to_z w128 (of_z w128 b))
passed_product_fits a b f g fits = subst (λ z. FitsSigned w128 z) (sym (λ i. to_z-of_z w128 a f i *ℤ to_z-of_z w128 b g i)) (fits_signed_from_abs w128 (a *ℤ b) fits)

passed_small : (z : ℤ) (bound : ℕ) → bound ≤ 2 ^ 127 → unsigned_abs z < bound → to_z w128 (of_z w128 z) ≡ z
passed_small z bound le h = to_z-of_z w128 z (fits_signed_from_abs w128 z (omega arith))

module _ (F O : ℤ) (p q m : ℕ) (small : unsigned_abs F < 2 ^ 20) (also : unsigned_abs O < 2 ^ 20) (is : m ≡ max p q) (factor : F ≡ pos (10 ^ (m - p))) (other : O ≡ pos (10 ^ (m - q))) where
  factor_is : to_z w128 (of_z w128 F) ≡ pos (10 ^ (max p q - p))
  factor_is = passed_small F (2 ^ 20) (omega arith) small ∙ factor ∙ ap (λ n. pos (10 ^ (n - p))) is

  other_is : to_z w128 (of_z w128 O) ≡ pos (10 ^ (max p q - q))
  other_is = passed_small O (2 ^ 20) (omega arith) also ∙ other ∙ ap (λ n. pos (10 ^ (n - q))) is

  -- numbers times the powers of ten, as the code has them
  pub counts_combined : (first second : ℤ) → first *ℤ to_z w128 (of_z w128 F) +ℤ second *ℤ to_z w128 (of_z w128 O) ≡ combined p q first second
  counts_combined first second = λ i. first *ℤ factor_is i +ℤ second *ℤ other_is i

  pub sum_combined : (first second x : ℤ) → unsigned_abs first < 2 ^ 64 → unsigned_abs second < 2 ^ 64
      → x ≡ to_z w128 (of_z w128 first) *ℤ to_z w128 (of_z w128 F) +ℤ to_z w128 (of_z w128 second) *ℤ to_z w128 (of_z w128 O) → to_z w128 (of_z w128 x) ≡ combined p q first second
  sum_combined first second x a b e =
      let sum : x ≡ first *ℤ F +ℤ second *ℤ O = e ∙ (λ i. passed_small first (2 ^ 64) (omega arith) a i *ℤ passed_small F (2 ^ 20) (omega arith) small i +ℤ passed_small second (2 ^ 64) (omega arith) b i *ℤ passed_small O (2 ^ 20) (omega arith) also i) in
      ap (λ z. to_z w128 (of_z w128 z)) sum
      ∙ passed_small (first *ℤ F +ℤ second *ℤ O) (2 ^ 127) (omega arith) (mixed_sum_below first F second O a small b also)
      ∙ (λ i. first *ℤ (factor ∙ ap (λ n. pos (10 ^ (n - p))) is) i +ℤ second *ℤ (other ∙ ap (λ n. pos (10 ^ (n - q))) is) i)

-- the product, as the code has it
pub product_is : (a b : ℤ) (m n : ℕ) → m ≤ 2 ^ 127 → n ≤ 2 ^ 127 → unsigned_abs a < m → unsigned_abs b < n → unsigned_abs (a *ℤ b) < 2 ^ 127
    → to_z w128 (of_z w128 (to_z w128 (of_z w128 a) *ℤ to_z w128 (of_z w128 b))) ≡ a *ℤ b
product_is a b m n p q f g fits =
    (λ i. to_z w128 (of_z w128 (passed_small a m p f i *ℤ passed_small b n q g i))) ∙ passed_small (a *ℤ b) (2 ^ 127) (omega arith) fits

pub scaled_is : (factor number : ℤ) → unsigned_abs factor < 2 ^ 64 → to_z w128 (of_z w128 factor) *ℤ number ≡ number *ℤ factor
scaled_is factor number small = ap (λ f. f *ℤ number) (passed_small factor (2 ^ 64) (omega arith) small) ∙ *ℤ_comm factor number

pub times_passed_below : (a f x : ℤ) (m n bound : ℕ) → n ≤ 2 ^ 127 → f ≡ x → unsigned_abs a < m → unsigned_abs x < n → m * n ≤ bound → unsigned_abs (a *ℤ to_z w128 (of_z w128 f)) < bound
times_passed_below a f x m n bound le is p q most =
    let P : ℤ → Type 0 = λ z. unsigned_abs z < n in
    product_below a (to_z w128 (of_z w128 f)) m n bound p (passed_below f n le (subst P (sym is) q)) most

pub scaled_by : (form product : Linear) (f x : ℤ) (p q : ℕ) → f ≡ x → unsigned_abs x < 2 ^ 64 → p ≡ q → IsScaled form (to_z w128 (of_z w128 f)) p product → IsScaled form x q product
scaled_by form product f x p q is small same scaled =
    let P : ℤ → ℕ → Type 0 = λ z n. IsScaled form z n product in
    subst (λ n. P x n) same (subst (λ z. P z p) (ap (λ z. to_z w128 (of_z w128 z)) is ∙ passed_small x (2 ^ 64) (omega arith) small) scaled)

-- ---- negations

pub minus_one : (z : ℤ) → z *ℤ negsuc 0 ≡ neg_ℤ z
minus_one z = *ℤ_comm z (negsuc 0) ∙ neg_times (pos 1) z ∙ ap neg_ℤ (one_times z)

abs_neg : (z : ℤ) → unsigned_abs (neg_ℤ z) ≡ unsigned_abs z
abs_neg (pos zero) = refl
abs_neg (pos (suc n)) = refl
abs_neg (negsuc n) = refl

within_neg : (z : ℤ) → is_within weight_bound z ≡ true → is_within weight_bound (z *ℤ negsuc 0) ≡ true
within_neg z e = within_is weight_bound (z *ℤ negsuc 0) ∙ ap (λ n. nat_lt n weight_bound) (ap unsigned_abs (minus_one z) ∙ abs_neg z) ∙ sym (within_is weight_bound z) ∙ e

pub negation_bounded : (form negation : Linear) → IsBounded form → IsScaled form (negsuc 0) 0 negation → IsBounded negation
negation_bounded form negation bounded is = record {
  places = (let e = is.places in let p = bounded.places in omega (arith, e, p));
  constant = (let e = ap unsigned_abs (is.constant ∙ minus_one form.constant) ∙ abs_neg form.constant in let h = bounded.constant in omega (arith, e, h));
  coefficients = record {
    cost = ap (is_within weight_bound) is.cost ∙ within_neg form.cost bounded.coefficients.cost;
    counts = λ name. ap (is_within weight_bound) (is.counts name) ∙ within_neg (number_at form.counts name) (bounded.coefficients.counts name);
  };
}
