-- Zeros before a number.
use Rattle.std.specs.Prelude.{ℕ, List, map}
use Rattle.std.specs.List.{range_with_len}

abbrev pub zeros : ℕ → List ℕ
zeros count = map (λ place. 48) (range_with_len 0 count)
