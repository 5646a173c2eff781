-- The words of an expression, where its text shows no number that is too long; and the numbers that these words are.
use Rattle.std.proofs.Common.{◌≡◌, ◌∙◌, refl, ap, subst, ℕ, ◌+◌, ◌<◌, ◌^◌, Bool, true, false, if◌then◌else◌, List, [], ◌∷◌, ◌++◌, map, fold, length, Option, Some, None, arith}
use Rattle.std.specs.Prelude.{is_some, ◌-◌, ◌*◌, ◌&&◌, ◌||◌, nat_lt, nat_le, unwrap_or}
use Rattle.std.specs.List.{AllByRecursion, list_all}
use Rattle.std.specs.Option.{option_map_or}
use Rattle.std.specs.Int.Digits.{AllBelowBase, number_from_digits_after}
use Rattle.std.proofs.lemmas.Bool.{and_parts, and_from, or_parts, ltb-false, lt-ltb, le-leb}
use Rattle.std.proofs.lemmas.Bool.Decides.{nat_tests}
use Rattle.std.proofs.lemmas.Int.Digits.{number_lt}
use Rattle.std.proofs.lemmas.List.{length-map}
use Rattle.std.proofs.lemmas.List.Folds.{list_all-append}
use Rattle.std.proofs.Math.Nat.{pow-le-pow_right}
use mathlib.Core.Former.{Count}
use Rattle.p3_base.specs.declared.refusal.Code.TheVariants.{NumberTooLong}
use Rattle.p3_base.specs.declared.refusal.Refusal.{Refusal}
use Rattle.p3_base.specs.declared.refusal.Role.{Role}
use Rattle.p3_base.specs.declared.refusal.Side.{Side}
use Rattle.p3_base.specs.Words.{is_digit, are_digits}
use Rattle.p3_task.specs.Names.{Name}
use Rattle.p3_task.specs.Decimals.{at_point, is_decimal, places_of, digits_of, digits_value}
use Rattle.p3_task.specs.Sides.{Half, role_of, level_limit, digit_limit, place_limit}
use Rattle.p3_task.specs.Tokens.{Token, Open, Close, Word, tokens_of}
use Rattle.p3_task.specs.Expressions.{kept, spelling, spellings, expression_of}
use Rattle.p3_task.specs.Grammar.Words.{◌>>=◌, ListPart, parts_place, numeral_place, descend, raws, descend_parts, expressions}
use Rattle.p3_task.specs.Grammar.Texts.{IsBalanced}
use Rattle.p3_task.specs.Refusals.Places.{first_some, refusal_at}
use Rattle.p3_task.specs.Refusals.Texts.{Inside, unbalanced_from, too_deep_from, construct_in, has_places_above, is_too_long, long_number, refusal_of_bytes, text_refusal}
use Rattle.p3_task.specs.Refusals.First.{HalfText, IsReadable, IsFirstOfHalf}
use Rattle.p3_task.specs.declared.expression.Expression.{Expression, Row_of-Expression, end_of-Expression, more_of-Expression}
use Rattle.p3_task.specs.declared.expression.Expression.TheVariants as expression
use Rattle.p3_task.specs.declared.term.Ref.{Ref}
use Rattle.p3_task.specs.declared.effect.Numeral.{Numeral}
use Rattle.p3_types.specs.Texts.{is_short}
use Rattle.p3_types.proofs.Gives.{Gives, nothing, just, each_mapped}

-- ---- digits

below_ten : (digits : Name) → list_all is_digit digits ≡ true → AllBelowBase 10 (map (λ digit. digit - 48) digits)
below_ten [] are = tt
below_ten (digit ∷ digits) are =
    let both = and_parts (is_digit digit) (list_all is_digit digits) are in
    (grind (arith, nat_tests, both.0), below_ten digits both.1)

value_after : (value : ℕ) (digits : Name) → fold (λ value digit. value * 10 + (digit - 48)) value digits ≡ number_from_digits_after 10 value (map (λ digit. digit - 48) digits)
value_after value [] = refl
value_after value (digit ∷ digits) = value_after (value * 10 + (digit - 48)) digits

value_below : (digits : Name) → list_all is_digit digits ≡ true → digits_value digits < 10 ^ length digits
value_below digits are =
    let below = number_lt 10 (map (λ digit. digit - 48) digits) (below_ten digits are) in
    omega (arith, below, value_after 0 digits, ap (λ n. 10 ^ n) (length-map digits (λ digit. digit - 48)))

all_digits : (digits : Name) → are_digits digits ≡ true → list_all is_digit digits ≡ true
all_digits [] are = refl
all_digits (digit ∷ digits) are = are

behind_digits : (behind : Option Name) → option_map_or are_digits behind true ≡ true → list_all is_digit (unwrap_or behind []) ≡ true
behind_digits None are = refl
behind_digits (Some digits) are = all_digits digits are

decimal_digits : (word : Name) → is_decimal word ≡ true → list_all is_digit (digits_of word) ≡ true
decimal_digits word is =
    let both = and_parts (are_digits (at_point word).0) (option_map_or are_digits (at_point word).1 true) is in
    list_all-append is_digit (at_point word).0 (unwrap_or (at_point word).1 []) ∙ and_from _ _ (all_digits (at_point word).0 both.0) (behind_digits (at_point word).1 both.1)

-- ---- words

few_places : (limit : Option ℕ) (word : Name) → has_places_above limit word ≡ false → nat_le (places_of word) (unwrap_or limit 0) ≡ true
few_places None word are = by (at_point word).1 are
  where
    by : (behind : Option Name) → is_some behind ≡ false → nat_le (option_map_or length behind 0) 0 ≡ true
    by None are = refl
    by (Some digits) are = absurd cc
few_places (Some limit) word are = le-leb _ _ (ltb-false _ _ are)

module _ (side : Side) where
  abbrev pub IsShort : Numeral → Type 0
  IsShort numeral = is_short side numeral ≡ true

  few_digits : (word : Name) → is_decimal word ≡ true → nat_lt (digit_limit side) (length (digits_of word)) ≡ false → nat_lt (digits_value (digits_of word)) (10 ^ digit_limit side) ≡ true
  few_digits word is few =
      let below = value_below (digits_of word) (decimal_digits word is) in
      let more = pow-le-pow_right {n = 10} (omega arith) (ltb-false (digit_limit side) (length (digits_of word)) few) in
      lt-ltb _ _ (omega (arith, below, more))

  -- no word of it is a number that is too long
  unfoldable mutual
    pub HasShortWords : Expression → Type 0
    HasShortWords (expression.Word at text) = is_too_long side text ≡ false
    HasShortWords (expression.Group' at shape parts) = RowHasShortWords parts

    pub RowHasShortWords : {n : Count} → Row_of-Expression n → Type 0
    RowHasShortWords end_of-Expression = Unit {0}
    RowHasShortWords (more_of-Expression part rest) = HasShortWords part × RowHasShortWords rest

  abbrev pub HaveShortWords : List Expression → Type 0
  HaveShortWords list = AllByRecursion HasShortWords list

  -- ---- what tokens spell

  -- no word that is a number too long
  IsShortToken : Token → Type 0
  IsShortToken (Word at text) = is_too_long side text ≡ false
  IsShortToken token = Unit {0}

  kept_short : (token : Token) → IsShortToken token → IsShortToken (kept token)
  unfolding IsShortToken
  kept_short (Open at) short = tt
  kept_short (Close at) short = tt
  kept_short (Word at text) short = short

  both_short : (first second : List Token) → AllByRecursion IsShortToken (first ++ second) → AllByRecursion IsShortToken first × AllByRecursion IsShortToken second
  both_short [] second each = (tt, each)
  both_short (token ∷ first) second each = let both = both_short first second each.1 in ((each.0, both.0), both.1)

  mutual
    unfolding HasShortWords IsShortToken spelling

    spelled_short : (e : Expression) → AllByRecursion IsShortToken (spelling e) → HasShortWords e
    spelled_short (expression.Word at text) each = each.0
    spelled_short (expression.Group' at shape parts) each = row_short parts (both_short (spellings parts) (Close 0 ∷ []) each.1).0

    row_short : {n : Count} (row : Row_of-Expression n) → AllByRecursion IsShortToken (spellings row) → RowHasShortWords row
    row_short end_of-Expression each = tt
    row_short (more_of-Expression part rest) each =
        let both = both_short (spelling part) (spellings rest) each in
        (spelled_short part both.0, row_short rest both.1)

  -- ---- what a readable text shows

  all_none : {A : Type 0} (shown : List (Option A)) → first_some shown ≡ None → AllByRecursion (λ found. found ≡ None) shown
  all_none [] none = tt
  all_none (None ∷ shown) none = (refl, all_none shown none)
  all_none (Some a ∷ shown) none = absurd cc

  tokens_short : (role : Role) (tokens : List Token) → AllByRecursion (λ found. found ≡ None) (map (long_number side role) tokens) → AllByRecursion IsShortToken tokens
  unfolding IsShortToken
  tokens_short role [] none = tt
  tokens_short role (Open at ∷ tokens) none = (tt, tokens_short role tokens none.1)
  tokens_short role (Close at ∷ tokens) none = (tt, tokens_short role tokens none.1)
  tokens_short role (Word at text ∷ tokens) none = (by (is_too_long side text) none.0, tokens_short role tokens none.1)
    where
      by : (is_long : Bool) → (if is_long then Some (refusal_at NumberTooLong role at (length text)) else None) ≡ None → is_long ≡ false
      by true none = absurd cc
      by false none = refl

  shows_none : (half : Half) (text : List ℕ) → IsReadable (HalfText side half text) → text_refusal side half text ≡ None
  shows_none half text readable = by (text_refusal side half text) readable
    where
      by : (found : Option Refusal) → ((refusal : Refusal) → IsFirstOfHalf found side half text refusal → ⊥) → found ≡ None
      by None readable = refl
      by (Some first) readable = absurd (readable first refl)

  -- the tokens of a text that shows nothing
  bytes_short : (role : Role) (size : ℕ) (tokens : List Token) (foreign : Option ℕ) → foreign ≡ None → refusal_of_bytes side role size tokens foreign ≡ None → AllByRecursion IsShortToken tokens
  bytes_short role size tokens (Some at) known none = absurd cc
  bytes_short role size tokens None known none =
      let shown = unbalanced_from role size (Inside 0) tokens ∷ too_deep_from role (level_limit side) 0 tokens ∷ construct_in role (expression_of (level_limit side) tokens)
      ∷ first_some (map (long_number side role) tokens) ∷ [] in
      tokens_short role tokens (all_none (map (long_number side role) tokens) (all_none shown none).1.1.1.0)

  -- the expression of a readable text has no number that is too long
  pub words_short : (half : Half) (text : List ℕ) (e : Expression) → IsReadable (HalfText side half text) → IsBalanced text e → HasShortWords e
  unfolding text_refusal
  words_short half text e readable balanced =
      let short = bytes_short (role_of side half) (length text) (tokens_of text).tokens (tokens_of text).foreign balanced.known (shows_none half text readable) in
      spelled_short e (subst (AllByRecursion IsShortToken) balanced.spelled (each_mapped IsShortToken IsShortToken kept kept_short (tokens_of text).tokens short))

  -- ---- what places make of such an expression

  pub parts_short : (e : Expression) → HasShortWords e → Gives HaveShortWords (parts_place e)
  unfolding HasShortWords
  parts_short (expression.Word at text) short = nothing
  parts_short (expression.Group' at shape parts) short = just (expressions parts) (row parts short)
    where
      row : {n : Count} (parts : Row_of-Expression n) → RowHasShortWords parts → HaveShortWords (expressions parts)
      row end_of-Expression short = tt
      row (more_of-Expression part rest) short = (short.0, row rest short.1)

  -- the number that a word is
  abbrev numeral_of : Ref → Option Numeral
  numeral_of word = Some (record { at = word.at; len = length word.name; digits = digits_value (digits_of word.name); places = places_of word.name })

  number_short : (at : ℕ) (text : Name) (is_number : Bool) → is_decimal text ≡ is_number
      → (is_number && (nat_lt (digit_limit side) (length (digits_of text)) || has_places_above (place_limit side) text)) ≡ false
      → Gives IsShort ((if is_number then Some (record { name = text; at = at }) else None) >>= numeral_of)
  number_short at text true is short =
      let both = or_parts _ _ short in
      just _ (and_from _ _ (few_digits text is both.0) (few_places (place_limit side) text both.1))
  number_short at text false is short = nothing

  pub numeral_short : (e : Expression) → HasShortWords e → Gives IsShort (numeral_place e)
  unfolding HasShortWords
  numeral_short (expression.Word at text) short = number_short at text (is_decimal text) refl short
  numeral_short (expression.Group' at shape parts) short = nothing

  -- a part of a list, and what is true of its tree
  abbrev pub IsPart : {A : Type 0} → (A → Type 0) → ListPart A → Type 0
  IsPart P part = HasShortWords part.raw × P part.tree

  -- what is true of all that a place makes of a word, and of a list where it is true of the parts, is true of all that it makes
  module _ {A : Type 0} (P : A → Type 0) (word : Expression → A) (list : Expression → List (ListPart A) → A)
      (at_word : (e : Expression) → HasShortWords e → P (word e)) (at_list : (e : Expression) (parts : List (ListPart A)) → AllByRecursion (IsPart P) parts → P (list e parts)) where
    mutual
      unfolding HasShortWords

      pub descends : (e : Expression) → HasShortWords e → P (descend word list e)
      descends (expression.Word at text) short = at_word (expression.Word at text) short
      descends (expression.Group' at shape parts) short = at_list (expression.Group' at shape parts) (descend_parts word list parts) (parts_descend parts short)

      parts_descend : {n : Count} (row : Row_of-Expression n) → RowHasShortWords row → AllByRecursion (IsPart P) (descend_parts word list row)
      parts_descend end_of-Expression short = tt
      parts_descend (more_of-Expression part rest) short = ((short.0, descends part short.0), parts_descend rest short.1)

  pub raws_short : {A : Type 0} (P : A → Type 0) (parts : List (ListPart A)) → AllByRecursion (IsPart P) parts → HaveShortWords (raws parts)
  raws_short P parts each = each_mapped (IsPart P) HasShortWords (λ part. part.raw) (λ part both. both.0) parts each
