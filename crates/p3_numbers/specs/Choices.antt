-- The choices of one object of each range by their number.
use Rattle.std.specs.Prelude.{ℕ, ◌*◌, ◌/◌, ◌%◌, List, [], ◌∷◌, length, slice_index_or}
use Rattle.p3_numbers.specs.Slots.{range_at}
use Rattle.p3_numbers.specs.declared.numbers.Numbers.{Numbers}

-- how many there are
unfoldable pub choice_count : Numbers → List ℕ → ℕ
choice_count N [] = 1
choice_count N (range ∷ ranges) = length (range_at N range) * choice_count N ranges

-- the choice of that number, the first object changing slowest
unfoldable pub choice : Numbers → List ℕ → ℕ → List ℕ
choice N [] number = []
choice N (range ∷ ranges) number = slice_index_or (range_at N range) (number / choice_count N ranges) 0 ∷ choice N ranges (number % choice_count N ranges)
