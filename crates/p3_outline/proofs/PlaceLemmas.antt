-- What is refused stands within the text.
use Rattle.std.proofs.Common.{◌≡◌, ◌≢◌, refl, sym, subst, ℕ, ◌+◌, ◌-◌, ◌≤◌, ◌==◌, Bool, true, false, nat_lt, ◌&&◌, ◌||◌, not, List, [], ◌∷◌, ◌++◌, map, length, fold, Option, Some, None, IfSome, arith}
use Rattle.std.specs.Prelude.{if◌then◌else◌, codes}
use Rattle.std.specs.Char.{to_ascii_lowercase}
use Rattle.std.specs.List.{AllByRecursion}
use Rattle.std.specs.Option.{option_map, option_map_or, option_or}
use mathlib.Core.Former.{Count}
use Rattle.p3_base.specs.declared.refusal.Code.{Code}
use Rattle.p3_base.specs.declared.refusal.Code.TheVariants.{Unbalanced, TooDeep, Construct, Malformed, NumberTooLong}
use Rattle.p3_base.specs.declared.refusal.Refusal.{Refusal}
use Rattle.p3_base.specs.declared.refusal.Role.{Role}
use Rattle.p3_base.specs.declared.refusal.Side.{Side}
use Rattle.p3_task.specs.Expressions.{kept, expression_of, spelling, spellings}
use Rattle.p3_task.specs.FirstOffence.{least_word}
use Rattle.p3_task.specs.Names.{Name, same_name}
use Rattle.p3_task.specs.Sides.{Half, InDomain, InProblem, role_of, level_limit}
use Rattle.p3_task.specs.Tokens.{Token, Open, Close, Word, Tokens, is_blank, is_of_word, is_comment_after, before, prefixed, with_byte, tokens_from, tokens_of}
use Rattle.p3_task.specs.Grammar.Words.{Place, expressions}
use Rattle.p3_task.specs.Grammar.Halves.{domain_place, problem_place}
use Rattle.p3_task.specs.Refusals.Constructs.{word_when, head_of, first_word, unless_total_cost, other_increase, not_a_number, shown_by, constructs, constructs_of, constructs_all}
use Rattle.p3_task.specs.Refusals.Malformed.{IsMalformedAt, IsMalformed}
use Rattle.p3_task.specs.Refusals.Places.{refusal_at, refusal_at_word, refusal_at_token, first_some}
use Rattle.p3_task.specs.Refusals.Texts.{Before, Inside, Behind, after_token, construct_in, is_too_long, long_number, refusal_of_tokens, refusal_of_bytes, text_refusal, unbalanced_end, unbalanced_from, too_deep_from}
use Rattle.p3_task.specs.declared.expression.Expression.{Expression, Group', Row_of-Expression, end_of-Expression, more_of-Expression}
use Rattle.p3_task.specs.declared.expression.Expression.TheVariants as expression
use Rattle.p3_task.specs.declared.term.Ref.{Ref}
use Rattle.p3_task.proofs.ReadingLemmas.{tokens_spell}
use Rattle.p3_places.specs.Searches.{side_of, half_of}
use Rattle.p3_outline.specs.First.{IsWithin}
use Rattle.p3_outline.proofs.SoundLemmas.{same_role}
use Rattle.p3_base.specs.declared.refusal.Role.TheVariants as role
use Rattle.p3_outline.specs.Constructs.{is_left_out, the_around, either_shown, increase_shown, head_shown, other_shown, number_shown, behind_shown, timed_shown, compared_shown, metric_shown, place_shown}
use Rattle.p3_outline.proofs.ConstructLemmas.{shown_as}

-- ---- lists

all_append : {A : Type 0} (P : A → Type 0) (xs ys : List A) → AllByRecursion P xs → AllByRecursion P ys → AllByRecursion P (xs ++ ys)
all_append P [] ys first second = second
all_append P (x ∷ xs) ys first second = (first.0, all_append P xs ys first.1 second)

all_front : {A : Type 0} (P : A → Type 0) (xs ys : List A) → AllByRecursion P (xs ++ ys) → AllByRecursion P xs
all_front P [] ys both = tt
all_front P (x ∷ xs) ys both = (both.0, all_front P xs ys both.1)

all_behind : {A : Type 0} (P : A → Type 0) (xs ys : List A) → AllByRecursion P (xs ++ ys) → AllByRecursion P ys
all_behind P [] ys both = both
all_behind P (x ∷ xs) ys both = all_behind P xs ys both.1

-- ---- tokens

-- the bytes of a token end at a place or before it
abbrev EndsBy : ℕ → Token → Type 0
EndsBy end (Open at) = at + 1 ≤ end
EndsBy end (Close at) = at + 1 ≤ end
EndsBy end (Word at text) = at + length text ≤ end

record EndBy (end : ℕ) (found : Tokens) : Type 0 where
  tokens : AllByRecursion (EndsBy end) found.tokens
  foreign : IfSome found.foreign (λ at. at + 1 ≤ end)

prefixed_ends : (end at byte : ℕ) (tokens : List Token) → at + 1 ≤ end → AllByRecursion (EndsBy end) tokens → AllByRecursion (EndsBy end) (prefixed at byte tokens)
prefixed_ends end at byte [] first later = (first, tt)
prefixed_ends end at byte (Open next ∷ tokens) first later = (first, later)
prefixed_ends end at byte (Close next ∷ tokens) first later = (first, later)
prefixed_ends end at byte (Word next text ∷ tokens) first later = by (next == at + 1) refl
  where
    by : (follows : Bool) → (next == at + 1) ≡ follows
        → AllByRecursion (EndsBy end) (if follows then Word at (to_ascii_lowercase byte ∷ text) ∷ tokens else Word at (to_ascii_lowercase byte ∷ []) ∷ Word next text ∷ tokens)
    by true is = let same : next ≡ at + 1 = grind arith in (omega (arith, same, later.0), later.1)
    by false is = (first, later)

byte_ends : (end at byte : ℕ) (later : Tokens) (opens closes own silent : Bool) → at + 1 ≤ end → EndBy end later
    → EndBy end (if opens then before (Open at) later else (if closes then before (Close at) later
    else (if own then record { tokens = prefixed at byte later.tokens; foreign = later.foreign } else (if silent then later else record { tokens = []; foreign = Some at }))))
byte_ends end at byte later true closes own silent first ends = record { tokens = (first, ends.tokens); foreign = ends.foreign }
byte_ends end at byte later false true own silent first ends = record { tokens = (first, ends.tokens); foreign = ends.foreign }
byte_ends end at byte later false false true silent first ends = record { tokens = prefixed_ends end at byte later.tokens first ends.tokens; foreign = ends.foreign }
byte_ends end at byte later false false false true first ends = ends
byte_ends end at byte later false false false false first ends = record { tokens = tt; foreign = first }

if_ends : (end : ℕ) (is_comment : Bool) (later other : Tokens) → EndBy end later → EndBy end other → EndBy end (if is_comment then later else other)
if_ends end true later other first second = first
if_ends end false later other first second = second

tokens_end : (end : ℕ) (is_comment : Bool) (at : ℕ) (bytes : List ℕ) → at + length bytes ≤ end → EndBy end (tokens_from is_comment at bytes)
unfolding tokens_from
tokens_end end is_comment at [] within = record { tokens = tt; foreign = tt }
tokens_end end is_comment at (byte ∷ bytes) within =
    let later : Tokens = tokens_from (is_comment_after is_comment byte) (at + 1) bytes in
    let ends : EndBy end later = tokens_end end (is_comment_after is_comment byte) (at + 1) bytes (omega (arith, within)) in
    if_ends end is_comment later (with_byte at byte later) ends
    (byte_ends end at byte later (byte == 40) (byte == 41) (is_of_word byte) (is_blank byte || byte == 59) (omega (arith, within)) ends)

-- ---- refusals of tokens

module _ (role : Role) (size : ℕ) where
  abbrev Fits : Option Refusal → Type 0
  Fits found = IfSome found (IsWithin role size)

  token_fits : (code : Code) (token : Token) → EndsBy size token → IsWithin role size (refusal_at_token code role token)
  token_fits code (Open at) ends = record { file = refl; within = ends }
  token_fits code (Close at) ends = record { file = refl; within = ends }
  token_fits code (Word at text) ends = record { file = refl; within = ends }

  end_fits : (before : Before) → Fits (unbalanced_end role size before)
  end_fits Behind = tt
  end_fits (Inside lists) = record { file = refl; within = omega arith }

  unbalanced_fits : (before : Before) (tokens : List Token) → AllByRecursion (EndsBy size) tokens → Fits (unbalanced_from role size before tokens)
  unfolding unbalanced_from
  unbalanced_fits before [] ends = end_fits before
  unbalanced_fits before (token ∷ tokens) ends = by (after_token before token) (λ next. unbalanced_fits next tokens ends.1)
    where
      by : (next : Option Before) → ((next : Before) → Fits (unbalanced_from role size next tokens))
          → Fits (option_map_or (λ next. unbalanced_from role size next tokens) next (Some (refusal_at_token Unbalanced role token)))
      by None later = token_fits Unbalanced token ends.0
      by (Some next) later = later next

  deep_by : (limit lists at : ℕ) (tokens : List Token) (fits : Bool) → at + 1 ≤ size → Fits (too_deep_from role limit (lists + 1) tokens)
      → Fits (if fits then too_deep_from role limit (lists + 1) tokens else Some (refusal_at TooDeep role at 1))
  deep_by limit lists at tokens true first later = later
  deep_by limit lists at tokens false first later = record { file = refl; within = first }

  deep_fits : (limit lists : ℕ) (tokens : List Token) → AllByRecursion (EndsBy size) tokens → Fits (too_deep_from role limit lists tokens)
  unfolding too_deep_from
  deep_fits limit lists [] ends = tt
  deep_fits limit lists (Open at ∷ tokens) ends = deep_by limit lists at tokens (nat_lt lists limit) ends.0 (deep_fits limit (lists + 1) tokens ends.1)
  deep_fits limit lists (Close at ∷ tokens) ends = deep_fits limit (lists - 1) tokens ends.1
  deep_fits limit lists (Word at text ∷ tokens) ends = deep_fits limit lists tokens ends.1

  or_fits : (first later : Option Refusal) → Fits first → Fits later → Fits (option_or first later)
  or_fits (Some found) later first second = first
  or_fits None later first second = second

  number_by : (long : Bool) (at : ℕ) (text : List ℕ) → at + length text ≤ size → Fits (if long then Some (refusal_at NumberTooLong role at (length text)) else None)
  number_by true at text ends = record { file = refl; within = ends }
  number_by false at text ends = tt

  numbers_fit : (side : Side) (tokens : List Token) → AllByRecursion (EndsBy size) tokens → Fits (first_some (map (long_number side role) tokens))
  numbers_fit side [] ends = tt
  numbers_fit side (Open at ∷ tokens) ends = numbers_fit side tokens ends.1
  numbers_fit side (Close at ∷ tokens) ends = numbers_fit side tokens ends.1
  numbers_fit side (Word at text ∷ tokens) ends =
      or_fits (long_number side role (Word at text)) (first_some (map (long_number side role) tokens)) (number_by (is_too_long side text) at text ends.0) (numbers_fit side tokens ends.1)

  -- ---- the words of an expression

  abbrev WordEnds : Ref → Type 0
  WordEnds word = word.at + length word.name ≤ size

  abbrev WordsEnd : List Ref → Type 0
  WordsEnd words = AllByRecursion WordEnds words

  abbrev mutual
    EachEnds : Expression → Type 0
    EachEnds (expression.Word at text) = at + length text ≤ size
    EachEnds (Group' at shape parts) = RowEnds parts

    RowEnds : {n : Count} → Row_of-Expression n → Type 0
    RowEnds end_of-Expression = Unit {0}
    RowEnds (more_of-Expression part rest) = EachEnds part × RowEnds rest

  abbrev WordToken : Token → Type 0
  WordToken (Open at) = Unit {0}
  WordToken (Close at) = Unit {0}
  WordToken (Word at text) = at + length text ≤ size

  kept_ends : (tokens : List Token) → AllByRecursion (EndsBy size) tokens → AllByRecursion WordToken (map kept tokens)
  kept_ends [] ends = tt
  kept_ends (Open at ∷ tokens) ends = (tt, kept_ends tokens ends.1)
  kept_ends (Close at ∷ tokens) ends = (tt, kept_ends tokens ends.1)
  kept_ends (Word at text ∷ tokens) ends = (ends.0, kept_ends tokens ends.1)

  mutual
    unfolding spelling spellings

    spelled_ends : (e : Expression) → AllByRecursion WordToken (spelling e) → EachEnds e
    spelled_ends (expression.Word at text) ends = ends.0
    spelled_ends (Group' at shape parts) ends = row_ends parts (all_front WordToken (spellings parts) (Close 0 ∷ []) ends.1)

    row_ends : {n : Count} (row : Row_of-Expression n) → AllByRecursion WordToken (spellings row) → RowEnds row
    row_ends end_of-Expression ends = tt
    row_ends (more_of-Expression part rest) ends =
        (spelled_ends part (all_front WordToken (spelling part) (spellings rest) ends), row_ends rest (all_behind WordToken (spelling part) (spellings rest) ends))

  list_ends : {n : Count} (row : Row_of-Expression n) → RowEnds row → AllByRecursion EachEnds (expressions row)
  list_ends end_of-Expression ends = tt
  list_ends (more_of-Expression part rest) ends = (ends.0, list_ends rest ends.1)

  -- ---- constructs

  when_ends : (test : Bool) (word : Ref) → WordEnds word → WordsEnd (word_when test word)
  when_ends true word ends = (ends, tt)
  when_ends false word ends = tt

  first_ends : (parts : List Expression) → AllByRecursion EachEnds parts → IfSome (first_word parts) WordEnds
  first_ends [] ends = tt
  first_ends (expression.Word at text ∷ parts) ends = ends.0
  first_ends (Group' at shape row ∷ parts) ends = tt

  head_ends : (e : Expression) → EachEnds e → IfSome (head_of e) WordEnds
  head_ends (expression.Word at text) ends = tt
  head_ends (Group' at shape parts) ends = first_ends (expressions parts) (list_ends parts ends)

  unless_ends : (word : Option Ref) → IfSome word WordEnds → WordsEnd (unless_total_cost word)
  unless_ends None ends = tt
  unless_ends (Some word) ends = when_ends _ word ends

  other_ends : (behind : List Expression) → AllByRecursion EachEnds behind → WordsEnd (other_increase behind)
  other_ends [] ends = tt
  other_ends (second ∷ others) ends = unless_ends (head_of second) (head_ends second ends.0)

  not_number_ends : (is_behind : Bool) (behind : List Expression) → AllByRecursion EachEnds behind → WordsEnd (not_a_number is_behind behind)
  not_number_ends is_behind [] ends = tt
  not_number_ends is_behind (Group' at shape parts ∷ rest) ends = not_number_ends false rest ends.1
  not_number_ends is_behind (expression.Word at text ∷ rest) ends =
      all_append WordEnds (word_when (is_behind && not (same_name text (codes "number"))) (record { name = text; at = at })) (not_a_number (same_name text (codes "-")) rest)
      (when_ends (is_behind && not (same_name text (codes "number"))) (record { name = text; at = at }) ends.0) (not_number_ends (same_name text (codes "-")) rest ends.1)

  if_words : (test : Bool) (words : List Ref) → WordsEnd words → WordsEnd (if test then words else [])
  if_words true words ends = ends
  if_words false words ends = tt

  three_end : (a b c : List Ref) → WordsEnd a → WordsEnd b → WordsEnd c → WordsEnd (a ++ b ++ c)
  three_end a b c first second third = all_append WordEnds (a ++ b) c (all_append WordEnds a b first second) third

  shown_ends : (names : List Name) (innermost : Option Name) (head : Ref) (behind : List Expression) → WordEnds head → AllByRecursion EachEnds behind → WordsEnd (shown_by names innermost head behind)
  shown_ends names innermost head behind first others =
      let around = the_around names innermost in
      subst WordsEnd (sym (shown_as names innermost head behind))
      (three_end (head_shown around head) (behind_shown head behind) (place_shown around head behind)
      (three_end (word_when (is_left_out head.name) head) (either_shown around head) (increase_shown around head) (when_ends _ head first) (when_ends _ head first) (when_ends _ head first))
      (all_append WordEnds (other_shown head behind) (number_shown head behind) (if_words _ (other_increase behind) (other_ends behind others)) (if_words _ (not_a_number false behind) (not_number_ends false behind others)))
      (three_end (timed_shown around head behind) (compared_shown around head behind) (metric_shown around head) (when_ends _ head first) (when_ends _ head first) (when_ends _ head first)))

  mutual
    unfolding constructs constructs_of constructs_all

    constructs_end : (names : List Name) (innermost : Option Name) (e : Expression) → EachEnds e → WordsEnd (constructs names innermost e)
    constructs_end names innermost (expression.Word at text) ends = when_ends _ (record { name = text; at = at }) ends
    constructs_end names innermost (Group' at shape parts) ends = below_end names innermost parts ends

    below_end : (names : List Name) (innermost : Option Name) {n : Count} (row : Row_of-Expression n) → RowEnds row → WordsEnd (constructs_of names innermost row)
    below_end names innermost end_of-Expression ends = tt
    below_end names innermost (more_of-Expression (expression.Word at text) rest) ends =
        three_end (shown_by names innermost (record { name = text; at = at }) (expressions rest)) (constructs names (Some text) (expression.Word at text)) (constructs_all (text ∷ names) (Some text) rest)
        (shown_ends names innermost (record { name = text; at = at }) (expressions rest) ends.0 (list_ends rest ends.1)) (when_ends _ (record { name = text; at = at }) ends.0) (all_end (text ∷ names) (Some text) rest ends.1)
    below_end names innermost (more_of-Expression (Group' at shape parts) rest) ends =
        all_append WordEnds (constructs_of names None parts) (constructs_all names None rest) (below_end names None parts ends.0) (all_end names None rest ends.1)

    all_end : (names : List Name) (innermost : Option Name) {n : Count} (row : Row_of-Expression n) → RowEnds row → WordsEnd (constructs_all names innermost row)
    all_end names innermost end_of-Expression ends = tt
    all_end names innermost (more_of-Expression part rest) ends =
        all_append WordEnds (constructs names innermost part) (constructs_all names innermost rest) (constructs_end names innermost part ends.0) (all_end names innermost rest ends.1)

  earlier : (test : Bool) (least word : Ref) → WordEnds least → WordEnds word → WordEnds (if test then word else least)
  earlier true least word first second = second
  earlier false least word first second = first

  least_ends : (least : Ref) (words : List Ref) → WordEnds least → WordsEnd words → WordEnds (fold (λ least other. if nat_lt other.at least.at then other else least) least words)
  least_ends least [] first ends = first
  least_ends least (word ∷ words) first ends =
      least_ends (if nat_lt word.at least.at then word else least) words (earlier (nat_lt word.at least.at) least word first ends.0) ends.1

  words_fit : (words : List Ref) → WordsEnd words → Fits (option_map (refusal_at_word Construct role) (least_word words))
  words_fit [] ends = tt
  words_fit (word ∷ words) ends = record { file = refl; within = least_ends word words ends.0 ends.1 }

  construct_fits : (tokens : List Token) (limit : ℕ) → AllByRecursion (EndsBy size) tokens → Fits (construct_in role (expression_of limit tokens))
  construct_fits tokens limit ends = by (expression_of limit tokens) refl
    where
      by : (found : Option Expression) → expression_of limit tokens ≡ found → Fits (construct_in role found)
      by None is = tt
      by (Some e) is =
          words_fit (constructs [] None e)
          (constructs_end [] None e (spelled_ends e (subst (AllByRecursion WordToken) (tokens_spell limit tokens e is) (kept_ends tokens ends))))

  -- ---- a text

  tokens_fit : (side : Side) (tokens : List Token) → AllByRecursion (EndsBy size) tokens → Fits (refusal_of_tokens side role size tokens)
  tokens_fit side tokens ends =
      or_fits (unbalanced_from role size (Inside 0) tokens) _ (unbalanced_fits (Inside 0) tokens ends)
      (or_fits (too_deep_from role (level_limit side) 0 tokens) _ (deep_fits (level_limit side) 0 tokens ends)
      (or_fits (construct_in role (expression_of (level_limit side) tokens)) _ (construct_fits tokens (level_limit side) ends)
      (or_fits (first_some (map (long_number side role) tokens)) None (numbers_fit side tokens ends) tt)))

  bytes_fit : (side : Side) (tokens : List Token) (foreign : Option ℕ) → AllByRecursion (EndsBy size) tokens → IfSome foreign (λ at. at + 1 ≤ size) → Fits (refusal_of_bytes side role size tokens foreign)
  bytes_fit side tokens (Some at) ends first = record { file = refl; within = first }
  bytes_fit side tokens None ends first = tokens_fit side tokens ends

text_ends : (text : List ℕ) → EndBy (length text) (tokens_of text)
text_ends text = tokens_end (length text) false 0 text (omega arith)

text_fits : (side : Side) (half : Half) (text : List ℕ) → IfSome (text_refusal side half text) (IsWithin (role_of side half) (length text))
unfolding text_refusal
text_fits side half text =
    let ends : EndBy (length text) (tokens_of text) = text_ends text in
    bytes_fit (role_of side half) (length text) side (tokens_of text).tokens (tokens_of text).foreign ends.tokens ends.foreign

-- WHAT IS REFUSED first stands within the text,
pub shown_within : (of : Role) (text : List ℕ) (refusal : Refusal) → of ≢ role.Plan → text_refusal (side_of of) (half_of of) text ≡ Some refusal → IsWithin of (length text) refusal
shown_within of text refusal task is =
    subst (λ (name : Role). IsWithin name (length text) refusal) (same_role of task)
    (subst (λ (found : Option Refusal). IfSome found (IsWithin (role_of (side_of of) (half_of of)) (length text))) is (text_fits (side_of of) (half_of of) text))

malformed_fits : {A : Type 0} (place : Place A) (role : Role) (text : List ℕ) (token : Token) → IsMalformedAt place text token → IsWithin role (length text) (refusal_at_token Malformed role token)
malformed_fits place role text token at =
    let ends = subst (AllByRecursion (EndsBy (length text))) at.parts (text_ends text).tokens in
    let here : EndsBy (length text) token × AllByRecursion (EndsBy (length text)) at.later = all_behind (EndsBy (length text)) at.before (token ∷ at.later) ends in
    token_fits role (length text) Malformed token here.0

malformed_half : (side : Side) (half : Half) (text : List ℕ) (refusal : Refusal) → IsMalformed side half text refusal → IsWithin (role_of side half) (length text) refusal
malformed_half side InDomain text refusal is =
    subst (IsWithin (role_of side InDomain) (length text)) (sym is.is) (malformed_fits domain_place (role_of side InDomain) text is.token is.first)
malformed_half side InProblem text refusal is =
    subst (IsWithin (role_of side InProblem) (length text)) (sym is.is) (malformed_fits problem_place (role_of side InProblem) text is.token is.first)

-- and so does what is malformed.
pub malformed_within : (of : Role) (text : List ℕ) (refusal : Refusal) → of ≢ role.Plan → IsMalformed (side_of of) (half_of of) text refusal → IsWithin of (length text) refusal
malformed_within of text refusal task is =
    subst (λ (name : Role). IsWithin name (length text) refusal) (same_role of task) (malformed_half (side_of of) (half_of of) text refusal is)
