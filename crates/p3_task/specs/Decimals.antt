-- Numbers as words: digits, or digits with one point that is neither first nor last.
use Rattle.std.specs.Prelude.{ℕ, ◌+◌, ◌-◌, ◌*◌, ◌==◌, Bool, true, ◌&&◌, [], ◌∷◌, ◌++◌, fold, length, if◌then◌else◌, Option, Some, None, is_some, unwrap_or}
use Rattle.std.specs.Option.{option_map_or}
pub use Rattle.p3_base.specs.Words.{are_digits}
use Rattle.p3_task.specs.Names.{Name}

-- the bytes before the first point, and those behind it where there is one
abbrev pub at_point : Name → Name × Option Name
at_point [] = ([], None)
at_point (byte ∷ bytes) = if byte == 46 then ([], Some bytes) else (byte ∷ (at_point bytes).0, (at_point bytes).1)

abbrev pub is_decimal : Name → Bool
is_decimal word = are_digits (at_point word).0 && option_map_or are_digits (at_point word).1 true

abbrev pub has_point : Name → Bool
has_point word = is_some (at_point word).1

-- how many digits stand behind the point
abbrev pub places_of : Name → ℕ
places_of word = option_map_or length (at_point word).1 0

-- all digits; superfluous zeros count, and the point does not
abbrev pub digits_of : Name → Name
digits_of word = (at_point word).0 ++ unwrap_or (at_point word).1 []

abbrev pub digits_value : Name → ℕ
digits_value digits = fold (λ value digit. value * 10 + (digit - 48)) 0 digits
