-- The scale of a quantity.
use Rattle.std.proofs.Common.{ℕ, zero, suc, ◌<◌, ◌≤◌, ◌^◌, arith}

pub positive_scale : (places : ℕ) → places ≤ 6 → 0 < 10 ^ places
positive_scale zero few = omega arith
positive_scale (suc zero) few = omega arith
positive_scale (suc (suc zero)) few = omega arith
positive_scale (suc (suc (suc zero))) few = omega arith
positive_scale (suc (suc (suc (suc zero)))) few = omega arith
positive_scale (suc (suc (suc (suc (suc zero))))) few = omega arith
positive_scale (suc (suc (suc (suc (suc (suc zero)))))) few = omega arith
positive_scale (suc (suc (suc (suc (suc (suc (suc more))))))) few = absurd (omega (arith, few))
