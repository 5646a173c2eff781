-- How words begin and go on.
use Rattle.std.specs.Prelude.{Bool, true, false, ◌&&◌, ◌∷◌}
use Rattle.std.specs.List.{list_all}
use Rattle.std.specs.Option.{option_map_or}
use Rattle.p3_base.specs.Words.{is_digit, is_letter}
use Rattle.p3_task.specs.Names.{Name}
use Rattle.p3_task.specs.Decimals.{at_point, are_digits}

-- what stands behind the first digit of a number
abbrev pub goes_on_as_decimal : Name → Bool
goes_on_as_decimal word = list_all is_digit (at_point word).0 && option_map_or are_digits (at_point word).1 true

-- two letters come first, as in each reserved word
abbrev pub begins_with_letters : Name → Bool
begins_with_letters (first ∷ second ∷ bytes) = is_letter first && is_letter second
begins_with_letters _ = false
