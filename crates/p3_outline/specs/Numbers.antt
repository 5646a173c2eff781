-- A word parted at its first point.
use Rattle.std.specs.Prelude.{List, map, nat_lt, ◌==◌, Bool, not, ℕ, [], ◌++◌, length, Option, Some, None, is_some, unwrap_or}
use Rattle.std.specs.Option.{option_map, option_map_or}
use Rattle.std.specs.Str.{str_to_ascii_lowercase}
use Rattle.p3_base.specs.declared.refusal.Refusal.{Refusal}
use Rattle.p3_base.specs.declared.refusal.Role.{Role}
use Rattle.p3_task.specs.Refusals.Places.{first_some}
use Rattle.p3_task.specs.Refusals.Texts.{long_number}
use Rattle.p3_task.specs.Tokens.{tokens_of}
use Rattle.p3_places.specs.Searches.{side_of}
use Rattle.p3_task.specs.Names.{Name}
use Rattle.p3_outline.specs.declared.numbers.AtPoint.{AtPoint}

abbrev pub is_no_point : ℕ → Bool
is_no_point byte = not (byte == 46)

-- the lowered bytes before the point, and those behind it
abbrev pub the_parts : AtPoint → Name × Option Name
the_parts parts = (str_to_ascii_lowercase parts.front.now, option_map (λ bytes. str_to_ascii_lowercase bytes.now) parts.behind)

abbrev pub digit_count : Name × Option Name → ℕ
digit_count parts = length (parts.0 ++ unwrap_or parts.1 [])

abbrev pub has_places_above : Option ℕ → Option Name → Bool
has_places_above None behind = is_some behind
has_places_above (Some limit) behind = nat_lt limit (option_map_or length behind 0)

-- the first number of a text that is too long
abbrev pub number_refusal : Role → List ℕ → Option Refusal
number_refusal role text = first_some (map (long_number (side_of role) role) (tokens_of text).tokens)
