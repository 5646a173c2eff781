-- A text with no refusal of its bytes and parentheses spells an expression.
use Rattle.std.proofs.Common.{◌≡◌, ◌∙◌, refl, sym, ap, subst, ◌≢◌, ℕ, suc, ◌+◌, ◌-◌, ◌==◌, Bool, true, false, nat_lt, if◌then◌else◌, List, [], ◌∷◌, ◌++◌, fold, length, Option, Some, None, arith}
use Rattle.std.specs.Prelude.{is_some, is_none, unwrap_or}
use Rattle.std.specs.Option.{option_map, option_or, option_map_or}
use Rattle.p3_base.specs.declared.refusal.Code.TheVariants.{Unbalanced, TooDeep}
use Rattle.p3_base.specs.declared.refusal.Refusal.{Refusal}
use Rattle.p3_base.specs.declared.refusal.Role.{Role}
use Rattle.p3_base.specs.declared.refusal.Role.TheVariants as role
use Rattle.p3_base.specs.declared.refusal.Side.{Side}
use Rattle.p3_task.specs.Sides.{role_of, level_limit}
use Rattle.p3_places.specs.Searches.{side_of, half_of}
use Rattle.p3_task.specs.Refusals.Places.{refusal_at}
use Rattle.p3_task.specs.Refusals.Texts.{Inside, Behind, unbalanced_from, too_deep_from, refusal_of_bytes, text_refusal}
use Rattle.p3_task.specs.Tokens.{Token, Open, Close, Word, tokens_of}
use Rattle.p3_task.specs.Expressions.{Group, Reading, Within, Whole, Stopped, read_token, whole_of, expression_of, expression_of_text}
use Rattle.p3_task.specs.declared.expression.Expression.{Expression}
use Rattle.p3_task.specs.declared.expression.Expression.TheVariants as expression
use Rattle.p3_outline.specs.Balances.{or_foreign, refusal_of_tokens, balance_refusal, outline_refusal}
use Rattle.p3_outline.proofs.BuildLemmas.{stopped}
use Rattle.std.proofs.lemmas.Bool.Decides.{nat_tests}

abbrev Ends : ℕ → Reading → List Token → Type 0
Ends limit read tokens = is_some (whole_of (fold (read_token limit) read tokens)) ≡ true

-- what nodes stand for, where there are some or none
pub spelled : (found : Option Expression) (es : List Expression) → Some es ≡ option_map (λ e. e ∷ []) found → (e : Expression) × (found ≡ Some e) × (es ≡ e ∷ [])
spelled None es is = absurd cc
spelled (Some e) es is = (e, refl, ap (λ o. unwrap_or o []) is)

pub none_spelled : (found : Option Expression) → None ≡ option_map (λ e. e ∷ []) found → found ≡ None
none_spelled None is = refl
none_spelled (Some e) is = absurd cc

one_more : (n : ℕ) → n + 1 ≡ suc n
one_more n = omega arith

record BothNone {A : Type 0} (first later : Option A) : Type 0 where
  is_first : first ≡ None
  is_later : later ≡ None

both_none : {A : Type 0} (first later : Option A) → option_or first later ≡ None → BothNone first later
both_none None later is = record { is_first = refl; is_later = is }
both_none (Some a) later is = absurd cc

more_by_one : (n : ℕ) → n + 1 ≡ suc n
more_by_one n = omega arith

one_off : (n : ℕ) → suc n - 1 ≡ n
one_off n = omega arith

none_is_zero : (n : ℕ) → (suc n == 0) ≡ true → ⊥
none_is_zero n is = grind (arith, nat_tests, is)

none_is_one : (n : ℕ) → (suc (suc n) == 1) ≡ true → ⊥
none_is_one n is = grind (arith, nat_tests, is)

module _ (role : Role) where
  -- nothing may follow the whole
  behind_ends : (limit size : ℕ) (e : Expression) (tokens : List Token) → unbalanced_from role size Behind tokens ≡ None → Ends limit (Whole e) tokens
  unfolding unbalanced_from
  behind_ends limit size e [] none = refl
  behind_ends limit size e (token ∷ tokens) none = absurd cc

  -- some lists are open
  abbrev Later : ℕ → ℕ → List Token → Type 0
  Later limit size tokens = (groups : List Group) → unbalanced_from role size (Inside (length groups)) tokens ≡ None → too_deep_from role limit (length groups) tokens ≡ None → Ends limit (Within groups) tokens

  open_by : (limit size at : ℕ) (groups : List Group) (tokens : List Token) (fits : Bool) → Later limit size tokens
      → unbalanced_from role size (Inside (length groups + 1)) tokens ≡ None → (if fits then too_deep_from role limit (length groups + 1) tokens else Some (refusal_at TooDeep role at 1)) ≡ None
      → Ends limit (if fits then Within (record { at = at; parts = [] } ∷ groups) else Stopped) tokens
  open_by limit size at groups tokens true later whole shallow =
      later (record { at = at; parts = [] } ∷ groups)
      (ap (λ n. unbalanced_from role size (Inside n) tokens) (sym (one_more (length groups))) ∙ whole)
      (ap (λ n. too_deep_from role limit n tokens) (sym (one_more (length groups))) ∙ shallow)
  open_by limit size at groups tokens false later whole shallow = absurd cc

  close_by : (limit size n : ℕ) (e : Expression) (group : Group) (groups : List Group) (tokens : List Token) → Later limit size tokens → n ≡ length groups
      → unbalanced_from role size (Inside (suc n)) tokens ≡ None → too_deep_from role limit (suc n) tokens ≡ None
      → Ends limit (Within (record { at = group.at; parts = group.parts ++ e ∷ [] } ∷ groups)) tokens
  close_by limit size n e group groups tokens later is whole shallow =
      later (record { at = group.at; parts = group.parts ++ e ∷ [] } ∷ groups) (ap (λ m. unbalanced_from role size (Inside (suc m)) tokens) (sym is) ∙ whole) (ap (λ m. too_deep_from role limit (suc m) tokens) (sym is) ∙ shallow)

  less_one : (n : ℕ) → suc n - 1 ≡ n
  less_one n = omega arith

  not_one : (n : ℕ) → (suc (suc n) == 1) ≡ false
  not_one n = grind arith

  -- of many open lists one closes
  one_less : (size n at : ℕ) (tokens : List Token) (none one : Bool) → (suc (suc n) == 0) ≡ none → (suc (suc n) == 1) ≡ one
      → option_map_or (λ next. unbalanced_from role size next tokens) (if none then None else Some (if one then Behind else Inside (suc (suc n) - 1))) (Some (refusal_at Unbalanced role at 1)) ≡ None
      → unbalanced_from role size (Inside (suc n)) tokens ≡ None
  one_less size n at tokens true one is_none is_one whole = absurd cc
  one_less size n at tokens false true is_none is_one whole = let no : (suc (suc n) == 1) ≡ false = not_one n in absurd (cc)
  one_less size n at tokens false false is_none is_one whole = ap (λ m. unbalanced_from role size (Inside m) tokens) (sym (less_one (suc n))) ∙ whole

  -- a word in an open list
  word_in : (size n : ℕ) (tokens : List Token) (none : Bool) → (suc n == 0) ≡ none → unbalanced_from role size (if none then Behind else Inside (suc n)) tokens ≡ None
      → unbalanced_from role size (Inside (suc n)) tokens ≡ None
  word_in size n tokens true is whole = let no : (suc n == 0) ≡ false = grind arith in absurd (cc)
  word_in size n tokens false is whole = whole

  tokens_end : (limit size : ℕ) (tokens : List Token) → Later limit size tokens
  unfolding unbalanced_from too_deep_from
  tokens_end limit size [] groups whole shallow = absurd cc
  tokens_end limit size (Open at ∷ tokens) groups whole shallow = open_by limit size at groups tokens (nat_lt (length groups) limit) (tokens_end limit size tokens) whole shallow
  tokens_end limit size (Close at ∷ tokens) [] whole shallow = absurd cc
  tokens_end limit size (Close at ∷ tokens) (group ∷ []) whole shallow = behind_ends limit size (expression.Group group.at group.parts) tokens whole
  tokens_end limit size (Close at ∷ tokens) (group ∷ outer ∷ groups) whole shallow =
      let n = length groups in
      close_by limit size n (expression.Group group.at group.parts) outer groups tokens (tokens_end limit size tokens) refl
      (one_less size n at tokens (suc (suc n) == 0) (suc (suc n) == 1) refl refl whole)
      (ap (λ m. too_deep_from role limit m tokens) (sym (less_one (suc n))) ∙ shallow)
  tokens_end limit size (Word at text ∷ tokens) [] whole shallow = behind_ends limit size (expression.Word at text) tokens whole
  tokens_end limit size (Word at text ∷ tokens) (group ∷ groups) whole shallow =
      tokens_end limit size tokens (record { at = group.at; parts = group.parts ++ expression.Word at text ∷ [] } ∷ groups) (word_in size (length groups) tokens (suc (length groups) == 0) refl whole) shallow

  sound_by : (limit : ℕ) (size : ℕ) (found : Option ℕ) (tokens : List Token) → or_foreign role found (refusal_of_tokens role limit size tokens) ≡ None → is_some (if is_none found then expression_of limit tokens else None) ≡ true
  unfolding expression_of
  sound_by limit size (Some at) tokens none = absurd cc
  sound_by limit size None tokens none =
      let b = both_none (unbalanced_from role size (Inside 0) tokens) (too_deep_from role limit 0 tokens) none in
      tokens_end limit size tokens [] b.is_first b.is_later

  pub sound : (limit : ℕ) (text : List ℕ) → balance_refusal role limit text ≡ None → is_some (expression_of_text limit text) ≡ true
  sound limit text none = sound_by limit (length text) (tokens_of text).foreign (tokens_of text).tokens none

  -- a text with no refusal has nodes
  pub never : (limit : ℕ) (text : List ℕ) → balance_refusal role limit text ≡ None → expression_of_text limit text ≡ None → ⊥
  never limit text none is = let some = sound limit text none in absurd cc

-- ---- a text that spells an expression has no refusal of its bytes and parentheses

module _ (role : Role) (limit size : ℕ) where
  abbrev Reads : Reading → List Token → Expression → Type 0
  Reads read tokens e = whole_of (fold (read_token limit) read tokens) ≡ Some e

  abbrev NoRefusal : ℕ → List Token → Type 0
  NoRefusal lists tokens = BothNone (unbalanced_from role size (Inside lists) tokens) (too_deep_from role limit lists tokens)

  never_whole : {A : Type 0} (tokens : List Token) (e : Expression) → Reads Stopped tokens e → A
  never_whole tokens e is = let none = stopped limit tokens in absurd cc

  -- nothing follows the whole
  whole_ends : (lists : ℕ) (part e : Expression) (tokens : List Token) → Reads (Whole part) tokens e → BothNone (unbalanced_from role size Behind tokens) (too_deep_from role limit lists tokens)
  unfolding unbalanced_from too_deep_from
  whole_ends lists part e [] is = record { is_first = refl; is_later = refl }
  whole_ends lists part e (token ∷ tokens) is = never_whole tokens e is

  abbrev Balances : List Token → Type 0
  Balances tokens = (groups : List Group) (e : Expression) → Reads (Within groups) tokens e → NoRefusal (length groups) tokens

  opens_by : (at : ℕ) (groups : List Group) (e : Expression) (tokens : List Token) (fits : Bool) → Balances tokens
      → Reads (if fits then Within (record { at = at; parts = [] } ∷ groups) else Stopped) tokens e
      → BothNone (unbalanced_from role size (Inside (length groups + 1)) tokens) (if fits then too_deep_from role limit (length groups + 1) tokens else Some (refusal_at TooDeep role at 1))
  opens_by at groups e tokens true later is =
      subst (λ n. NoRefusal n tokens) (sym (more_by_one (length groups))) (later (record { at = at; parts = [] } ∷ groups) e is)
  opens_by at groups e tokens false later is = never_whole tokens e is

  -- of many open lists one closes
  closes_by : (n at : ℕ) (tokens : List Token) (none one : Bool) → (suc (suc n) == 0) ≡ none → (suc (suc n) == 1) ≡ one → unbalanced_from role size (Inside (suc n)) tokens ≡ None
      → option_map_or (λ next. unbalanced_from role size next tokens) (if none then None else Some (if one then Behind else Inside (suc (suc n) - 1))) (Some (refusal_at Unbalanced role at 1)) ≡ None
  closes_by n at tokens true one is_none is_one whole = absurd (none_is_zero (suc n) is_none)
  closes_by n at tokens false true is_none is_one whole = absurd (none_is_one n is_one)
  closes_by n at tokens false false is_none is_one whole = ap (λ m. unbalanced_from role size (Inside m) tokens) (one_off (suc n)) ∙ whole

  word_by : (n : ℕ) (tokens : List Token) (none : Bool) → (suc n == 0) ≡ none → unbalanced_from role size (Inside (suc n)) tokens ≡ None
      → unbalanced_from role size (if none then Behind else Inside (suc n)) tokens ≡ None
  word_by n tokens true is whole = absurd (none_is_zero n is)
  word_by n tokens false is whole = whole

  tokens_balance : (tokens : List Token) → Balances tokens
  unfolding unbalanced_from too_deep_from
  tokens_balance [] groups e is = absurd cc
  tokens_balance (Open at ∷ tokens) groups e is = opens_by at groups e tokens (nat_lt (length groups) limit) (tokens_balance tokens) is
  tokens_balance (Close at ∷ tokens) [] e is = never_whole tokens e is
  tokens_balance (Close at ∷ tokens) (group ∷ []) e is = whole_ends 0 (expression.Group group.at group.parts) e tokens is
  tokens_balance (Close at ∷ tokens) (group ∷ outer ∷ groups) e is =
      let n = length groups in
      let later = tokens_balance tokens (record { at = outer.at; parts = outer.parts ++ expression.Group group.at group.parts ∷ [] } ∷ groups) e is in
      record {
        is_first = closes_by n at tokens (suc (suc n) == 0) (suc (suc n) == 1) refl refl later.is_first;
        is_later = ap (λ m. too_deep_from role limit m tokens) (one_off (suc n)) ∙ later.is_later;
      }
  tokens_balance (Word at text ∷ tokens) [] e is = whole_ends 0 (expression.Word at text) e tokens is
  tokens_balance (Word at text ∷ tokens) (group ∷ groups) e is =
      let later = tokens_balance tokens (record { at = group.at; parts = group.parts ++ expression.Word at text ∷ [] } ∷ groups) e is in
      record { is_first = word_by (length groups) tokens (suc (length groups) == 0) refl later.is_first; is_later = later.is_later }

  balanced_by : (foreign : Option ℕ) (tokens : List Token) (e : Expression) → (if is_none foreign then expression_of limit tokens else None) ≡ Some e
      → or_foreign role foreign (refusal_of_tokens role limit size tokens) ≡ None
  unfolding expression_of
  balanced_by (Some at) tokens e is = absurd cc
  balanced_by None tokens e is =
      let none = tokens_balance tokens [] e is in
      ap (λ o. option_or o (too_deep_from role limit 0 tokens)) none.is_first ∙ none.is_later

pub balanced : (role : Role) (limit : ℕ) (text : List ℕ) (e : Expression) → expression_of_text limit text ≡ Some e → balance_refusal role limit text ≡ None
balanced role limit text e is = balanced_by role limit (length text) (tokens_of text).foreign (tokens_of text).tokens e is

-- ---- it is the first refusal that the text shows by itself

pub same_role : (of : Role) → of ≢ role.Plan → role_of (side_of of) (half_of of) ≡ of
same_role role.Domain task = refl
same_role role.Problem task = refl
same_role role.WrittenDomain task = refl
same_role role.WrittenProblem task = refl
same_role role.Plan task = absurd (task refl)

first_of_more : (first later others : Option Refusal) (r : Refusal) → option_or first later ≡ Some r → option_or first (option_or later others) ≡ Some r
first_of_more (Some found) later others r is = is
first_of_more None (Some found) others r is = is
first_of_more None None others r is = absurd cc

first_by : (side : Side) (of : Role) (size : ℕ) (tokens : List Token) (foreign : Option ℕ) (r : Refusal)
    → or_foreign of foreign (refusal_of_tokens of (level_limit side) size tokens) ≡ Some r → refusal_of_bytes side of size tokens foreign ≡ Some r
first_by side of size tokens (Some at) r is = is
first_by side of size tokens None r is = first_of_more (unbalanced_from of size (Inside 0) tokens) (too_deep_from of (level_limit side) 0 tokens) _ r is

pub first_shown : (of : Role) (text : List ℕ) (r : Refusal) → of ≢ role.Plan → outline_refusal of text ≡ Some r → text_refusal (side_of of) (half_of of) text ≡ Some r
unfolding text_refusal
first_shown of text r task is =
    ap (λ (n : Role). refusal_of_bytes (side_of of) n (length text) (tokens_of text).tokens (tokens_of text).foreign) (same_role of task)
    ∙ first_by (side_of of) of (length text) (tokens_of text).tokens (tokens_of text).foreign r is
