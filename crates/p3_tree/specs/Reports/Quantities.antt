-- How a quantity is printed: with so many digits behind its point.
use Rattle.std.specs.Prelude.{ℕ, ◌+◌, ◌-◌, ◌^◌, ◌%◌, ◌/◌, ◌==◌, ℤ, pos, negsuc, List, [], ◌++◌, map, length, codes, if◌then◌else◌}
use Rattle.std.specs.Fmt.{decimal}
use Rattle.std.specs.List.{range_with_len}

abbrev pub sign : ℤ → List ℕ
sign (pos n) = []
sign (negsuc n) = codes "-"

abbrev pub magnitude : ℤ → ℕ
magnitude (pos n) = n
magnitude (negsuc n) = n + 1

-- the digits of a number, with zeros before them up to a length
abbrev pub padded : ℕ → ℕ → List ℕ
padded len n = map (λ k. 48) (range_with_len 0 (len - length (decimal n))) ++ decimal n

abbrev pub unsigned_quantity : ℕ → ℕ → List ℕ
unsigned_quantity places n = if places == 0 then decimal n else decimal (n / (10 ^ places)) ++ codes "." ++ padded places (n % (10 ^ places))

-- a number of units, each of them 1 divided by 10 to the power of the places
abbrev pub shown_quantity : ℕ → ℤ → List ℕ
shown_quantity places units = sign units ++ unsigned_quantity places (magnitude units)
