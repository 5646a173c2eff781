-- Scanning token by token.
use Rattle.std.proofs.Common.{◌≡◌, ◌∙◌, refl, sym, ap, ℕ, ◌+◌, ◌-◌, ◌≤◌, ◌==◌, Bool, true, false, nat_lt, if◌then◌else◌, List, [], ◌∷◌, Option, Some, None, arith}
use Rattle.std.specs.Option.{option_or, option_map_or}
use Rattle.p3_base.specs.declared.refusal.Code.TheVariants.{Unbalanced, TooDeep}
use Rattle.p3_base.specs.declared.refusal.Refusal.{Refusal}
use Rattle.p3_base.specs.declared.refusal.Role.{Role}
use Rattle.p3_task.specs.Refusals.Places.{refusal_at}
use Rattle.p3_task.specs.Refusals.Texts.{Inside, Behind, unbalanced_from, too_deep_from}
use Rattle.p3_task.specs.Tokens.{Token, Tokens, Open, Close, Word, before}
use Rattle.p3_outline.specs.Balances.{or_foreign, deep_at, with_token, depth, at_end, found_by, found_in}
use Rattle.p3_outline.specs.declared.balance.Scan.{Scan}
use Rattle.p3_outline.specs.declared.balance.Scan.TheVariants as scan

module _ (role : Role) where
  -- ---- one token more

  open_by : (limit size lists at : ℕ) (deep : Option Refusal) (tokens : List Token) (fits : Bool)
      → option_or deep (if fits then too_deep_from role limit (lists + 1) tokens else Some (refusal_at TooDeep role at 1))
      ≡ option_or (option_or deep (if fits then None else Some (refusal_at TooDeep role at 1))) (too_deep_from role limit (lists + 1) tokens)
  open_by limit size lists at (Some found) tokens fits = refl
  open_by limit size lists at None tokens true = refl
  open_by limit size lists at None tokens false = refl

  deep_as : (limit lists at : ℕ) (deep : Option Refusal) → deep_at role limit lists deep at ≡ option_or deep (if nat_lt lists limit then None else Some (refusal_at TooDeep role at 1))
  deep_as limit lists at (Some found) = refl
  deep_as limit lists at None = refl

  close_by : (limit size lists at : ℕ) (deep : Option Refusal) (tokens : List Token) (none one : Bool) → (lists == 1) ≡ one
      → option_or (option_map_or (λ next. unbalanced_from role size next tokens) (if none then None else Some (if one then Behind else Inside (lists - 1))) (Some (refusal_at Unbalanced role at 1))) (option_or deep (too_deep_from role limit (lists - 1) tokens))
      ≡ found_by role limit size (if none then scan.Unbalanced (refusal_at Unbalanced role at 1) else (if one then scan.Behind deep else scan.Inside (lists - 1) deep)) tokens
  close_by limit size lists at deep tokens true one is = refl
  close_by limit size lists at deep tokens false true is =
      let last : lists - 1 ≡ 0 = grind arith in
      ap (λ n. option_or (unbalanced_from role size Behind tokens) (option_or deep (too_deep_from role limit n tokens))) last
  close_by limit size lists at deep tokens false false is = refl

  word_by : (limit size lists : ℕ) (deep : Option Refusal) (tokens : List Token) (none : Bool) → (lists == 0) ≡ none
      → option_or (unbalanced_from role size (if none then Behind else Inside lists) tokens) (option_or deep (too_deep_from role limit lists tokens))
      ≡ found_by role limit size (if none then scan.Behind deep else scan.Inside lists deep) tokens
  word_by limit size lists deep tokens true is =
      let none : lists ≡ 0 = grind arith in
      ap (λ n. option_or (unbalanced_from role size Behind tokens) (option_or deep (too_deep_from role limit n tokens))) none
  word_by limit size lists deep tokens false is = refl

  found_more : (limit size : ℕ) (state : Scan) (token : Token) (tokens : List Token) → found_by role limit size state (token ∷ tokens) ≡ found_by role limit size (with_token role limit state token) tokens
  unfolding unbalanced_from too_deep_from
  found_more limit size (scan.Inside lists deep) (Open at) tokens =
      ap (λ o. option_or (unbalanced_from role size (Inside (lists + 1)) tokens) o)
      (open_by limit size lists at deep tokens (nat_lt lists limit) ∙ ap (λ o. option_or o (too_deep_from role limit (lists + 1) tokens)) (sym (deep_as limit lists at deep)))
  found_more limit size (scan.Inside lists deep) (Close at) tokens = close_by limit size lists at deep tokens (lists == 0) (lists == 1) refl
  found_more limit size (scan.Inside lists deep) (Word at text) tokens = word_by limit size lists deep tokens (lists == 0) refl
  found_more limit size (scan.Behind deep) token tokens = refl
  found_more limit size (scan.Unbalanced found) token tokens = refl

  pub scan_more : (limit size : ℕ) (state next : Scan) (token : Token) (later : Tokens) → next ≡ with_token role limit state token → found_in role limit size state (before token later) ≡ found_in role limit size next later
  scan_more limit size state next token later is =
      ap (or_foreign role later.foreign) (found_more limit size state token later.tokens ∙ ap (λ s. found_by role limit size s later.tokens) (sym is))

  -- ---- the end

  or_none : (o : Option Refusal) → option_or o None ≡ o
  or_none None = refl
  or_none (Some found) = refl

  found_end : (limit size : ℕ) (state : Scan) → found_by role limit size state [] ≡ at_end role size state
  unfolding unbalanced_from too_deep_from
  found_end limit size (scan.Inside lists deep) = refl
  found_end limit size (scan.Behind deep) = or_none deep
  found_end limit size (scan.Unbalanced found) = refl

  pub scan_ends : (limit size : ℕ) (state : Scan) → found_in role limit size state (record { tokens = []; foreign = None }) ≡ at_end role size state
  scan_ends limit size state = found_end limit size state

  -- ---- levels

  closed_less : (lists : ℕ) (deep : Option Refusal) (at : ℕ) (none one : Bool) → depth (if none then scan.Unbalanced (refusal_at Unbalanced role at 1) else (if one then scan.Behind deep else scan.Inside (lists - 1) deep)) ≤ lists + 1
  closed_less lists deep at true one = omega arith
  closed_less lists deep at false true = omega arith
  closed_less lists deep at false false = omega arith

  word_less : (lists : ℕ) (deep : Option Refusal) (none : Bool) → depth (if none then scan.Behind deep else scan.Inside lists deep) ≤ lists + 1
  word_less lists deep true = omega arith
  word_less lists deep false = omega arith

  pub one_deeper : (limit : ℕ) (state : Scan) (token : Token) → depth (with_token role limit state token) ≤ depth state + 1
  one_deeper limit (scan.Inside lists deep) (Open at) = omega arith
  one_deeper limit (scan.Inside lists deep) (Close at) = closed_less lists deep at (lists == 0) (lists == 1)
  one_deeper limit (scan.Inside lists deep) (Word at text) = word_less lists deep (lists == 0)
  one_deeper limit (scan.Behind deep) token = omega arith
  one_deeper limit (scan.Unbalanced found) token = omega arith
