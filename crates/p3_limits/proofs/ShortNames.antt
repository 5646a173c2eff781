-- The names of the actions of a task that is read from texts are short, as no word is longer than its text.
use Rattle.std.proofs.Common.{◌≡◌, ℕ, suc, ◌+◌, ◌≤◌, ◌<◌, ◌^◌, refl, subst, Bool, true, false, ◌||◌, if◌then◌else◌, List, [], ◌∷◌, ◌++◌, map, length, codes, Some, arith}
use Rattle.std.specs.Prelude.{◌==◌, nat_lt}
use Rattle.std.specs.Char.{to_ascii_lowercase}
use Rattle.std.specs.List.{AllByRecursion, list_all}
use Rattle.std.proofs.lemmas.Bool.{and_from, lt-ltb, ltb-true}
use Rattle.std.proofs.lemmas.List.Sums.{AllPass-from_list_all}
use mathlib.Core.Former.{Count}
use Rattle.p3_base.specs.declared.refusal.Side.{Side}
use Rattle.p3_base.specs.declared.refusal.Side.TheVariants.{Source, Written}
use Rattle.p3_task.specs.Expressions.{kept, spelling, spellings}
use Rattle.p3_task.specs.Grammar.Effects.{effect_or_empty_place}
use Rattle.p3_task.specs.Grammar.Constraints.{constraint_or_empty_place}
use Rattle.p3_task.specs.Grammar.Goals.{goal_or_empty_place}
use Rattle.p3_task.specs.Grammar.Halves.{Section, action_in, action_keywords, all_actions, body_at, domain_keywords, domain_place, functions_in, half_at, half_in, keyword_parts, kinds_in, no_constraints, optional, part_at, predicates_in, requirements, section_of, section_place, sections_among, sections_named, titled}
use Rattle.p3_task.specs.Grammar.Lists.{objects_in, variables_place}
use Rattle.p3_task.specs.Grammar.Words.{expressions, is_name, is_word, name_place, parts_place}
use Rattle.p3_task.specs.Names.{Name}
use Rattle.p3_task.specs.Sides.{byte_limit}
use Rattle.p3_task.specs.Tokens.{Token, Open, Close, Word, Tokens, before, is_blank, is_comment_after, is_of_word, prefixed, tokens_from, tokens_of, with_byte}
use Rattle.p3_task.specs.declared.effect.Effect.TheVariants as effect
use Rattle.p3_task.specs.declared.expression.Expression.{Expression, Row_of-Expression, end_of-Expression, more_of-Expression}
use Rattle.p3_task.specs.declared.expression.Expression.TheVariants as expression
use Rattle.p3_task.specs.declared.goal.PreGoal.TheVariants as goal
use Rattle.p3_task.specs.declared.task.Action.{Action}
use Rattle.p3_task.specs.declared.task.Task.{Task}
use Rattle.p3_types.proofs.Gives.{Gives, nothing, just, using, passing, whether, each_filtered, each_mapped, headed_gives, trees_give}
use Rattle.p3_types.specs.Texts.{HasTexts}
use Rattle.p3_limits.specs.Bounds.{HaveShortNames}

-- ---- tokens

-- it has no more bytes, if it is a word
abbrev IsShort : ℕ → Token → Type 0
IsShort size (Open at) = Unit {0}
IsShort size (Close at) = Unit {0}
IsShort size (Word at text) = length text ≤ size

abbrev AreShort : ℕ → List Token → Type 0
AreShort size tokens = AllByRecursion (IsShort size) tokens

wider : (size : ℕ) (token : Token) → IsShort size token → IsShort (suc size) token
wider size (Open at) short = tt
wider size (Close at) short = tt
wider size (Word at text) short = omega (arith, short)

widened : (size : ℕ) (tokens : List Token) → AreShort size tokens → AreShort (suc size) tokens
widened size [] each = tt
widened size (token ∷ tokens) each = (wider size token each.0, widened size tokens each.1)

prefixed_short : (size at byte : ℕ) (tokens : List Token) → AreShort size tokens → AreShort (suc size) (prefixed at byte tokens)
prefixed_short size at byte [] each = (omega arith, tt)
prefixed_short size at byte (Open other ∷ later) each = (omega arith, widened size (Open other ∷ later) each)
prefixed_short size at byte (Close other ∷ later) each = (omega arith, widened size (Close other ∷ later) each)
prefixed_short size at byte (Word next text ∷ later) each = by (next == at + 1)
  where
    by : (t : Bool) → AreShort (suc size) (if t then Word at (to_ascii_lowercase byte ∷ text) ∷ later else Word at (to_ascii_lowercase byte ∷ []) ∷ Word next text ∷ later)
    by true = (omega (arith, each.0), widened size later each.1)
    by false = (omega arith, widened size (Word next text ∷ later) each)

byte_short : (size at byte : ℕ) (later : Tokens) → AreShort size later.tokens → AreShort (suc size) (with_byte at byte later).tokens
byte_short size at byte later each = by (byte == 40) (byte == 41) (is_of_word byte) (is_blank byte || byte == 59)
  where
    by : (opens closes word blank : Bool)
        → AreShort (suc size) (if opens then before (Open at) later
        else (if closes then before (Close at) later
        else (if word then record { tokens = prefixed at byte later.tokens; foreign = later.foreign }
        else (if blank then later
        else record { tokens = []; foreign = Some at })))).tokens
    by true closes word blank = (tt, widened size later.tokens each)
    by false true word blank = (tt, widened size later.tokens each)
    by false false true blank = prefixed_short size at byte later.tokens each
    by false false false true = widened size later.tokens each
    by false false false false = tt

tokens_short : (is_comment : Bool) (at : ℕ) (text : List ℕ) → AreShort (length text) (tokens_from is_comment at text).tokens
unfolding tokens_from
tokens_short is_comment at [] = tt
tokens_short is_comment at (byte ∷ text) = by is_comment (tokens_from (is_comment_after is_comment byte) (at + 1) text) (tokens_short (is_comment_after is_comment byte) (at + 1) text)
  where
    by : (t : Bool) (later : Tokens) → AreShort (length text) later.tokens → AreShort (suc (length text)) (if t then later else with_byte at byte later).tokens
    by true later each = widened (length text) later.tokens each
    by false later each = byte_short (length text) at byte later each

-- ---- expressions

module _ (size : ℕ) where
  -- no word of it has more bytes
  unfoldable mutual
    HasShortWords : Expression → Type 0
    HasShortWords (expression.Word at text) = length text ≤ size
    HasShortWords (expression.Group' at shape parts) = RowHasShortWords parts

    RowHasShortWords : {n : Count} → Row_of-Expression n → Type 0
    RowHasShortWords end_of-Expression = Unit {0}
    RowHasShortWords (more_of-Expression part rest) = HasShortWords part × RowHasShortWords rest

  abbrev HaveShortWords : List Expression → Type 0
  HaveShortWords list = AllByRecursion HasShortWords list

  kept_short : (token : Token) → IsShort size token → IsShort size (kept token)
  kept_short (Open at) short = tt
  kept_short (Close at) short = tt
  kept_short (Word at text) short = short

  both_short : (first second : List Token) → AreShort size (first ++ second) → AreShort size first × AreShort size second
  both_short [] second each = (tt, each)
  both_short (token ∷ first) second each = let both = both_short first second each.1 in ((each.0, both.0), both.1)

  mutual
    unfolding HasShortWords spelling

    spelled_short : (e : Expression) → AreShort size (spelling e) → HasShortWords e
    spelled_short (expression.Word at text) each = each.0
    spelled_short (expression.Group' at shape parts) each = row_short parts (both_short (spellings parts) (Close 0 ∷ []) each.1).0

    row_short : {n : Count} (row : Row_of-Expression n) → AreShort size (spellings row) → RowHasShortWords row
    row_short end_of-Expression each = tt
    row_short (more_of-Expression part rest) each =
        let both = both_short (spelling part) (spellings rest) each in
        (spelled_short part both.0, row_short rest both.1)

  -- ---- places

  parts_short : (e : Expression) → HasShortWords e → Gives HaveShortWords (parts_place e)
  unfolding HasShortWords
  parts_short (expression.Word at text) short = nothing
  parts_short (expression.Group' at shape parts) short = just (expressions parts) (row parts short)
    where
      row : {n : Count} (parts : Row_of-Expression n) → RowHasShortWords parts → HaveShortWords (expressions parts)
      row end_of-Expression short = tt
      row (more_of-Expression part rest) short = (short.0, row rest short.1)

  name_short : (e : Expression) → HasShortWords e → Gives (λ name. length name.name ≤ size) (name_place e)
  unfolding HasShortWords
  name_short (expression.Word at text) short = whether (is_name text) _ _ (just _ short) nothing
  name_short (expression.Group' at shape parts) short = nothing

  abbrev IsShortSection : Section → Type 0
  IsShortSection section = HaveShortWords section.behind

  abbrev AreShortSections : List Section → Type 0
  AreShortSections sections = AllByRecursion IsShortSection sections

  section_short : (e : Expression) → HasShortWords e → Gives IsShortSection (section_place e)
  section_short e short =
      using _ _ (parts_short e short) (λ parts each.
      using _ _ (headed_gives HasShortWords (λ (part : Expression). part) parts each) (λ list others.
      just (section_of list) others))

  half_in_short : (kind : Name) (keywords : List Name) (list : List Expression) → HaveShortWords list → Gives (λ half. AreShortSections half.sections) (half_in kind keywords list)
  half_in_short kind keywords [] each = nothing
  half_in_short kind keywords (word ∷ []) each = nothing
  half_in_short kind keywords (word ∷ title ∷ behind) each =
      passing (is_word (codes "define") word) _ (λ define.
      passing (titled kind title) _ (λ name.
      using _ _ (trees_give IsShortSection (map section_place behind) (each_mapped HasShortWords (Gives IsShortSection) section_place section_short behind each.1.1)) (λ list found.
      using _ _ (whether _ _ _ (just list found) nothing) (λ sections those.
      just (record { name = name; sections = sections }) those))))

  half_short : (kind : Name) (keywords : List Name) (e : Expression) → HasShortWords e → Gives (λ half. AreShortSections half.sections) (half_at kind keywords e)
  half_short kind keywords e short = using _ _ (parts_short e short) (half_in_short kind keywords)

  abbrev IsShortAction : Action → Type 0
  IsShortAction action = length action.name.name ≤ size

  action_short : (list : List Expression) → HaveShortWords list → Gives IsShortAction (action_in list)
  action_short [] each = nothing
  action_short (first ∷ behind) each =
      using _ _ (name_short first each.0) (λ name short.
      passing (keyword_parts behind) _ (λ list.
      passing (sections_among action_keywords list) _ (λ parts.
      passing (optional (codes ":parameters") [] (body_at variables_place) parts) _ (λ params.
      passing (optional (codes ":precondition") (record { at = name.at; body = goal.Both [] }) (part_at goal_or_empty_place) parts) _ (λ pre.
      passing (optional (codes ":effect") (record { at = name.at; body = effect.All [] }) (part_at effect_or_empty_place) parts) _ (λ change.
      just (record { name = name; params = params; pre = pre; effect = change }) short))))))

  all_actions_short : (sections : List Section) → AreShortSections sections → Gives (AllByRecursion IsShortAction) (all_actions sections)
  all_actions_short [] each = just [] tt
  all_actions_short (section ∷ sections) each =
      using _ _ (action_short section.behind each.0) (λ first of.
      using _ _ (all_actions_short sections each.1) (λ others those.
      just (first ∷ others) (of, those)))

  domain_short : (e : Expression) → HasShortWords e → Gives (λ domain. AllByRecursion IsShortAction domain.actions) (domain_place e)
  unfolding domain_place
  domain_short e short =
      using _ _ (half_short (codes "domain") domain_keywords e short) (λ half each.
      passing (optional (codes ":requirements") [] requirements half.sections) _ (λ words.
      passing (optional (codes ":types") [] kinds_in half.sections) _ (λ kinds.
      passing (optional (codes ":constants") [] (λ section. objects_in section.behind) half.sections) _ (λ constants.
      passing (optional (codes ":predicates") [] predicates_in half.sections) _ (λ predicates.
      passing (optional (codes ":functions") [] functions_in half.sections) _ (λ functions.
      passing (optional (codes ":constraints") no_constraints (part_at constraint_or_empty_place) half.sections) _ (λ constraints.
      using _ _ (all_actions_short (sections_named (codes ":action") half.sections) (each_filtered IsShortSection _ half.sections each)) (λ actions those.
      just (record { name = half.name; kinds = kinds; constants = constants; predicates = predicates; functions = functions; constraints = constraints; actions = actions }) those))))))))

-- ---- the task

few_bytes : (side : Side) → byte_limit side < 2 ^ 32
few_bytes Source = omega arith
few_bytes Written = omega arith

abbrev pub has_short_name : Action → Bool
has_short_name action = nat_lt (length action.name.name) (2 ^ 32)

pub short_names : (side : Side) (T : Task) → HasTexts side T → list_all has_short_name T.domain.actions ≡ true
short_names side T texts =
    let size = length texts.domain in
    let tokens = each_mapped (IsShort size) (IsShort size) kept (kept_short size) (tokens_of texts.domain).tokens (tokens_short false 0 texts.domain) in
    let words = spelled_short size texts.reads.domain (subst (AreShort size) texts.reads.domain_balanced.spelled tokens) in
    let actions = (domain_short size texts.reads.domain words).gives T.domain texts.reads.texts.domain in
    passes T.domain.actions actions
  where
    few : (action : Action) → length action.name.name ≤ length texts.domain → has_short_name action ≡ true
    few action short = lt-ltb (length action.name.name) (2 ^ 32) (omega (arith, short, texts.short_domain, few_bytes side))

    passes : (actions : List Action) → AllByRecursion (λ (action : Action). length action.name.name ≤ length texts.domain) actions → list_all has_short_name actions ≡ true
    passes [] each = refl
    passes (action ∷ actions) each = and_from (has_short_name action) (list_all has_short_name actions) (few action each.0) (passes actions each.1)

pub have_short_names : (actions : List Action) → list_all has_short_name actions ≡ true → HaveShortNames actions
have_short_names actions short k d within = ltb-true _ (2 ^ 32) (AllPass-from_list_all has_short_name actions short k d within)
