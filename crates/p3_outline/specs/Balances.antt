-- The first refusal of a text's bytes and parentheses: a foreign byte, a token that closes nothing or follows the whole expression or an end before it, a list too deep. They are looked for in this order, each at its least offset.
use Rattle.std.specs.Prelude.{ℕ, ◌+◌, ◌-◌, ◌==◌, nat_lt, List, length, if◌then◌else◌, Option, Some, None}
use Rattle.std.specs.Option.{option_or}
use Rattle.p3_base.specs.declared.refusal.Code.TheVariants.{BadByte, Unbalanced, TooDeep}
use Rattle.p3_base.specs.declared.refusal.Refusal.{Refusal}
use Rattle.p3_base.specs.declared.refusal.Role.{Role}
use Rattle.p3_task.specs.Sides.{level_limit}
use Rattle.p3_task.specs.Refusals.Places.{refusal_at, refusal_at_token}
use Rattle.p3_task.specs.Refusals.Texts.{Inside, Behind, unbalanced_from, too_deep_from}
use Rattle.p3_places.specs.Searches.{side_of}
use Rattle.p3_task.specs.Tokens.{Token, Tokens, Open, Close, Word, tokens_of}
use Rattle.p3_outline.specs.declared.balance.Scan.{Scan}
use Rattle.p3_outline.specs.declared.balance.Scan.TheVariants as scan

abbrev pub refusal_of_tokens : Role → ℕ → ℕ → List Token → Option Refusal
refusal_of_tokens role limit size tokens = option_or (unbalanced_from role size (Inside 0) tokens) (too_deep_from role limit 0 tokens)

abbrev pub or_foreign : Role → Option ℕ → Option Refusal → Option Refusal
or_foreign role (Some at) later = Some (refusal_at BadByte role at 1)
or_foreign role None later = later

-- THE FIRST REFUSAL among the three, with so many levels
abbrev pub balance_refusal : Role → ℕ → List ℕ → Option Refusal
balance_refusal role limit text = or_foreign role (tokens_of text).foreign (refusal_of_tokens role limit (length text) (tokens_of text).tokens)

-- with the levels of the text's side
abbrev pub outline_refusal : Role → List ℕ → Option Refusal
outline_refusal role text = balance_refusal role (level_limit (side_of role)) text

-- ---- a scan

-- the first `(` above the limit
abbrev pub deep_at : Role → ℕ → ℕ → Option Refusal → ℕ → Option Refusal
deep_at role limit lists (Some found) at = Some found
deep_at role limit lists None at = if nat_lt lists limit then None else Some (refusal_at TooDeep role at 1)

abbrev pub closed_at : Role → ℕ → Option Refusal → ℕ → Scan
closed_at role lists deep at = if lists == 0 then scan.Unbalanced (refusal_at Unbalanced role at 1) else (if lists == 1 then scan.Behind deep else scan.Inside (lists - 1) deep)

abbrev pub word_at : ℕ → Option Refusal → Scan
word_at lists deep = if lists == 0 then scan.Behind deep else scan.Inside lists deep

abbrev pub inside : Role → ℕ → ℕ → Option Refusal → Token → Scan
inside role limit lists deep (Open at) = scan.Inside (lists + 1) (deep_at role limit lists deep at)
inside role limit lists deep (Close at) = closed_at role lists deep at
inside role limit lists deep (Word at text) = word_at lists deep

abbrev pub with_token : Role → ℕ → Scan → Token → Scan
with_token role limit (scan.Inside lists deep) token = inside role limit lists deep token
with_token role limit (scan.Behind deep) token = scan.Unbalanced (refusal_at_token Unbalanced role token)
with_token role limit (scan.Unbalanced found) token = scan.Unbalanced found

-- how many lists are open
abbrev pub depth : Scan → ℕ
depth (scan.Inside lists deep) = lists
depth (scan.Behind deep) = 0
depth (scan.Unbalanced found) = 0

-- what a scan has found at the end
abbrev pub at_end : Role → ℕ → Scan → Option Refusal
at_end role size (scan.Inside lists deep) = Some (refusal_at Unbalanced role size 0)
at_end role size (scan.Behind deep) = deep
at_end role size (scan.Unbalanced found) = Some found

-- what it finds where these tokens are left
abbrev pub found_by : Role → ℕ → ℕ → Scan → List Token → Option Refusal
found_by role limit size (scan.Inside lists deep) tokens = option_or (unbalanced_from role size (Inside lists) tokens) (option_or deep (too_deep_from role limit lists tokens))
found_by role limit size (scan.Behind deep) tokens = option_or (unbalanced_from role size Behind tokens) (option_or deep (too_deep_from role limit 0 tokens))
found_by role limit size (scan.Unbalanced found) tokens = Some found

abbrev pub found_in : Role → ℕ → ℕ → Scan → Tokens → Option Refusal
found_in role limit size state left = or_foreign role left.foreign (found_by role limit size state left.tokens)
