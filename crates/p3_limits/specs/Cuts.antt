-- Counts that are cut at a number above all limits, so that none overflows.
use Rattle.std.specs.Prelude.{ℕ, ◌+◌, ◌*◌, ◌-◌, ◌^◌, min, List, fold, length}
use Rattle.p3_numbers.specs.Slots.{range_at}
use Rattle.p3_numbers.specs.declared.numbers.Numbers.{Numbers}

unfoldable pub cut : ℕ → ℕ
cut n = min n (2 ^ 64 - 1)

-- how many choices there are of one object of each range, with each product cut
abbrev pub cut_choices : Numbers → List ℕ → ℕ
cut_choices N ranges = fold (λ product range. cut (product * length (range_at N range))) 1 ranges

-- a sum that begins at a number, each step cut
abbrev pub cut_total : {A : Type 0} → (A → ℕ) → ℕ → List A → ℕ
cut_total size start items = fold (λ total item. cut (total + size item)) start items

abbrev pub cut_sum : ℕ → List ℕ → ℕ
cut_sum start sizes = cut_total (λ size. size) start sizes
