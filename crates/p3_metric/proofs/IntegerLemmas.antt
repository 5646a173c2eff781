-- Products of integers over sums, and by numbers one after another.
use Rattle.std.proofs.Common.{◌≡◌, ◌∙◌, ℕ, zero, suc, ◌*◌, sym, ap, arith, pos, ◌+ℤ◌, ◌-ℤ◌, ◌*ℤ◌, neg_ℤ}
use Rattle.std.specs.Prelude.{ℤ, negsuc}
use Rattle.std.proofs.lemmas.Int.{ints}
use Rattle.std.proofs.Math.IntN.{suc_ℤ-*ℤ, pred_ℤ-*ℤ, zero-*ℤ, *ℤ_comm}
use Rattle.std.proofs.Math.Nat.{mul_assoc}

zero_times_sum : (x y : ℤ) → pos zero *ℤ (x +ℤ y) ≡ pos zero *ℤ x +ℤ pos zero *ℤ y
zero_times_sum x y = zero-*ℤ (x +ℤ y) ∙ sym (λ i. zero-*ℤ x i +ℤ zero-*ℤ y i)

pub times_sum : (z x y : ℤ) → z *ℤ (x +ℤ y) ≡ z *ℤ x +ℤ z *ℤ y
times_sum (pos zero) x y = zero_times_sum x y
times_sum (pos (suc n)) x y =
    let a = suc_ℤ-*ℤ (pos n) (x +ℤ y) in
    let b = suc_ℤ-*ℤ (pos n) x in
    let c = suc_ℤ-*ℤ (pos n) y in
    a ∙ (λ i. times_sum (pos n) x y i +ℤ (x +ℤ y)) ∙ swapped (pos n *ℤ x) (pos n *ℤ y) x y ∙ sym (λ i. b i +ℤ c i)
  where
    swapped : (p q x y : ℤ) → (p +ℤ q) +ℤ (x +ℤ y) ≡ (p +ℤ x) +ℤ (q +ℤ y)
    swapped p q x y = omega (arith, ints)
times_sum (negsuc zero) x y =
    let a = pred_ℤ-*ℤ (pos zero) (x +ℤ y) in
    let b = pred_ℤ-*ℤ (pos zero) x in
    let c = pred_ℤ-*ℤ (pos zero) y in
    a ∙ (λ i. zero_times_sum x y i -ℤ (x +ℤ y)) ∙ swapped (pos zero *ℤ x) (pos zero *ℤ y) x y ∙ sym (λ i. b i +ℤ c i)
  where
    swapped : (p q x y : ℤ) → (p +ℤ q) -ℤ (x +ℤ y) ≡ (p -ℤ x) +ℤ (q -ℤ y)
    swapped p q x y = omega (arith, ints)
times_sum (negsuc (suc n)) x y =
    let a = pred_ℤ-*ℤ (negsuc n) (x +ℤ y) in
    let b = pred_ℤ-*ℤ (negsuc n) x in
    let c = pred_ℤ-*ℤ (negsuc n) y in
    a ∙ (λ i. times_sum (negsuc n) x y i -ℤ (x +ℤ y)) ∙ swapped (negsuc n *ℤ x) (negsuc n *ℤ y) x y ∙ sym (λ i. b i +ℤ c i)
  where
    swapped : (p q x y : ℤ) → (p +ℤ q) -ℤ (x +ℤ y) ≡ (p -ℤ x) +ℤ (q -ℤ y)
    swapped p q x y = omega (arith, ints)

pub sum_times : (x y z : ℤ) → (x +ℤ y) *ℤ z ≡ x *ℤ z +ℤ y *ℤ z
sum_times x y z = *ℤ_comm (x +ℤ y) z ∙ times_sum z x y ∙ (λ i. *ℤ_comm z x i +ℤ *ℤ_comm z y i)

pub neg_times : (x z : ℤ) → neg_ℤ x *ℤ z ≡ neg_ℤ (x *ℤ z)
neg_times x z = by (neg_ℤ x *ℤ z) (x *ℤ z) (sym (sum_times (neg_ℤ x) x z) ∙ ap (λ y. y *ℤ z) (nothing x) ∙ zero-*ℤ z)
  where
    nothing : (x : ℤ) → neg_ℤ x +ℤ x ≡ pos 0
    nothing x = omega (arith, ints)

    by : (a b : ℤ) → a +ℤ b ≡ pos 0 → a ≡ neg_ℤ b
    by a b e = omega (arith, ints, e)

pub difference_times : (x y z : ℤ) → (x -ℤ y) *ℤ z ≡ x *ℤ z -ℤ y *ℤ z
difference_times x y z = sum_times x (neg_ℤ y) z ∙ ap (λ w. x *ℤ z +ℤ w) (neg_times y z)

pub times_twice : (x : ℤ) (a b : ℕ) → (x *ℤ pos a) *ℤ pos b ≡ x *ℤ pos (a * b)
times_twice (pos n) a b = ap pos (mul_assoc n a b)
times_twice (negsuc n) a b =
    ap (λ y. y *ℤ pos b) (neg_times (pos (suc n)) (pos a)) ∙ neg_times (pos (suc n * a)) (pos b) ∙ ap (λ m. neg_ℤ (pos m)) (mul_assoc (suc n) a b) ∙ sym (neg_times (pos (suc n)) (pos (a * b)))
