-- What the text of a half shows by itself: a foreign byte, parentheses that do not fit, a list too deep, a construct that is left out by name, a number too long. They are looked for in this order, each at its least offset.
use Rattle.std.specs.Prelude.{ℕ, ◌+◌, ◌-◌, ◌==◌, nat_lt, Bool, ◌&&◌, ◌||◌, List, [], ◌∷◌, map, length, if◌then◌else◌, Option, Some, None, option_map}
use Rattle.std.specs.Option.{option_map_or}
use Rattle.p3_base.specs.declared.refusal.Code.TheVariants.{BadByte, Unbalanced, TooDeep, Construct, NumberTooLong}
use Rattle.p3_base.specs.declared.refusal.Refusal.{Refusal}
use Rattle.p3_base.specs.declared.refusal.Role.{Role}
use Rattle.p3_base.specs.declared.refusal.Side.{Side}
use Rattle.p3_task.specs.Names.{Name}
use Rattle.p3_task.specs.Decimals.{is_decimal, has_point, digits_of, places_of}
use Rattle.p3_task.specs.Sides.{Half, role_of, level_limit, digit_limit, place_limit}
use Rattle.p3_task.specs.FirstOffence.{least_word}
use Rattle.p3_task.specs.Tokens.{Token, Open, Close, Word, tokens_of}
use Rattle.p3_task.specs.Expressions.{expression_of}
use Rattle.p3_task.specs.Refusals.Constructs.{constructs}
use Rattle.p3_task.specs.Refusals.Places.{refusal_at, refusal_at_word, refusal_at_token, first_some}
use Rattle.p3_task.specs.declared.expression.Expression.{Expression}

-- ---- parentheses

-- what stands before a token: so many open lists, or the whole expression
pub data Before : Type 0 where
  Inside : (lists : ℕ) → Before
  Behind : Before

-- what stands behind a token, unless it closes nothing or follows the whole expression
abbrev pub after_token : Before → Token → Option Before
after_token Behind token = None
after_token (Inside lists) (Open at) = Some (Inside (lists + 1))
after_token (Inside lists) (Close at) = if lists == 0 then None else Some (if lists == 1 then Behind else Inside (lists - 1))
after_token (Inside lists) (Word at text) = Some (if lists == 0 then Behind else Inside lists)

-- the end of a text of so many bytes
abbrev pub unbalanced_end : Role → ℕ → Before → Option Refusal
unbalanced_end role size Behind = None
unbalanced_end role size (Inside lists) = Some (refusal_at Unbalanced role size 0)

-- a token that closes nothing or follows the whole expression, or an end before one expression is whole
unfoldable pub unbalanced_from : Role → ℕ → Before → List Token → Option Refusal
unbalanced_from role size before [] = unbalanced_end role size before
unbalanced_from role size before (token ∷ tokens) =
    option_map_or (λ next. unbalanced_from role size next tokens) (after_token before token) (Some (refusal_at_token Unbalanced role token))

-- a `(` that opens a level above the limit
unfoldable pub too_deep_from : Role → ℕ → ℕ → List Token → Option Refusal
too_deep_from role limit lists [] = None
too_deep_from role limit lists (Open at ∷ tokens) = if nat_lt lists limit then too_deep_from role limit (lists + 1) tokens else Some (refusal_at TooDeep role at 1)
too_deep_from role limit lists (Close at ∷ tokens) = too_deep_from role limit (lists - 1) tokens
too_deep_from role limit lists (Word at text ∷ tokens) = too_deep_from role limit lists tokens

-- ---- constructs that are left out by name

abbrev pub construct_in : Role → Option Expression → Option Refusal
construct_in role None = None
construct_in role (Some e) = option_map (refusal_at_word Construct role) (least_word (constructs [] None e))

-- ---- numbers

-- more digits behind the point than may stand there, or a point where none may
abbrev pub has_places_above : Option ℕ → Name → Bool
has_places_above None word = has_point word
has_places_above (Some limit) word = nat_lt limit (places_of word)

abbrev pub is_too_long : Side → Name → Bool
is_too_long side word = is_decimal word && (nat_lt (digit_limit side) (length (digits_of word)) || has_places_above (place_limit side) word)

abbrev pub long_number : Side → Role → Token → Option Refusal
long_number side role (Open at) = None
long_number side role (Close at) = None
long_number side role (Word at text) = if is_too_long side text then Some (refusal_at NumberTooLong role at (length text)) else None

-- ---- the first of them

abbrev pub refusal_of_tokens : Side → Role → ℕ → List Token → Option Refusal
refusal_of_tokens side role size tokens = first_some (
    unbalanced_from role size (Inside 0) tokens ∷ too_deep_from role (level_limit side) 0 tokens
    ∷ construct_in role (expression_of (level_limit side) tokens) ∷ first_some (map (long_number side role) tokens) ∷ [])

abbrev pub refusal_of_bytes : Side → Role → ℕ → List Token → Option ℕ → Option Refusal
refusal_of_bytes side role size tokens (Some foreign) = Some (refusal_at BadByte role foreign 1)
refusal_of_bytes side role size tokens None = refusal_of_tokens side role size tokens

-- the first of these refusals that the text shows
unfoldable pub text_refusal : Side → Half → List ℕ → Option Refusal
text_refusal side half text = refusal_of_bytes side (role_of side half) (length text) (tokens_of text).tokens (tokens_of text).foreign
