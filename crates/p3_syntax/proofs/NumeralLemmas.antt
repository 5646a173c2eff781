-- Numbers have no letters to lower.
use Rattle.std.proofs.Common.{◌≡◌, ◌∙◌, refl, sym, ap, subst, ℕ, suc, ◌+◌, ◌≤◌, ◌<◌, ◌^◌, Bool, true, false, ◌&&◌, [], ◌∷◌, ◌++◌, length, fold, drop, get_or, Option, Some, None, arith}
use Rattle.std.specs.Prelude.{◌==◌, if◌then◌else◌, option_map, unwrap_or, is_some, IsSome, IfSome}
use Rattle.std.specs.Char.{to_ascii_lowercase}
use Rattle.std.specs.List.{list_all}
use Rattle.std.specs.Option.{option_map_or, SomeIff}
use Rattle.std.specs.Str.{str_to_ascii_lowercase}
use Rattle.std.proofs.lemmas.Bool.{and_parts}
use Rattle.std.proofs.lemmas.Bool.Decides.{nat_tests}
use Rattle.std.proofs.lemmas.List.{at_drop_more, length-map}
use Rattle.p3_base.specs.Words.{is_digit}
use Rattle.p3_task.specs.Names.{Name}
use Rattle.p3_task.specs.Decimals.{at_point, are_digits, is_decimal, digits_of, digits_value, places_of}
use Rattle.p3_task.specs.Grammar.Words.{◌>>=◌, numeral_place}
use Rattle.p3_task.specs.declared.expression.Expression.TheVariants as expression
use Rattle.p3_task.specs.declared.effect.Numeral.{Numeral}
use Rattle.p3_task.specs.declared.term.Ref.{Ref}
use Rattle.p3_syntax.specs.declared.tree.numerals.Decimal.{Decimal}
use Rattle.p3_syntax.specs.Trees.{HasRoom, HasRoomFor, IsDecimalOf, numeral_with, with_digit}

digit_raw : (byte : ℕ) → is_digit (to_ascii_lowercase byte) ≡ is_digit byte
digit_raw byte = grind (arith, nat_tests)

point_raw : (byte : ℕ) → (to_ascii_lowercase byte == 46) ≡ (byte == 46)
point_raw byte = grind (arith, nat_tests)

digit_same : (byte : ℕ) → is_digit byte ≡ true → to_ascii_lowercase byte ≡ byte
digit_same byte is = grind (arith, nat_tests)

all_raw : (bytes : Name) → list_all is_digit (str_to_ascii_lowercase bytes) ≡ list_all is_digit bytes
all_raw [] = refl
all_raw (byte ∷ bytes) = λ i. digit_raw byte i && all_raw bytes i

digits_raw : (bytes : Name) → are_digits (str_to_ascii_lowercase bytes) ≡ are_digits bytes
digits_raw [] = refl
digits_raw (byte ∷ bytes) = all_raw (byte ∷ bytes)

all_same : (bytes : Name) → list_all is_digit bytes ≡ true → str_to_ascii_lowercase bytes ≡ bytes
all_same [] is = refl
all_same (byte ∷ bytes) is =
    let both : (is_digit byte ≡ true) × (list_all is_digit bytes ≡ true) = and_parts (is_digit byte) (list_all is_digit bytes) is in
    λ i. digit_same byte both.0 i ∷ all_same bytes both.1 i

digits_same : (bytes : Name) → are_digits bytes ≡ true → str_to_ascii_lowercase bytes ≡ bytes
digits_same [] is = refl
digits_same (byte ∷ bytes) is = all_same (byte ∷ bytes) is

abbrev lowered_split : Name × Option Name → Name × Option Name
lowered_split split = (str_to_ascii_lowercase split.0, option_map str_to_ascii_lowercase split.1)

split_raw : (word : Name) → at_point (str_to_ascii_lowercase word) ≡ lowered_split (at_point word)
split_raw [] = refl
split_raw (byte ∷ bytes) = (λ i. if point_raw byte i then ([], Some (str_to_ascii_lowercase bytes)) else (to_ascii_lowercase byte ∷ (split_raw bytes i).0, (split_raw bytes i).1)) ∙ by (byte == 46)
  where
    by : (is_point : Bool) → (if is_point then ([], Some (str_to_ascii_lowercase bytes)) else (to_ascii_lowercase byte ∷ (lowered_split (at_point bytes)).0, (lowered_split (at_point bytes)).1))
        ≡ lowered_split (if is_point then ([], Some bytes) else (byte ∷ (at_point bytes).0, (at_point bytes).1))
    by true = refl
    by false = refl

behind_raw : (behind : Option Name) → option_map_or are_digits (option_map str_to_ascii_lowercase behind) true ≡ option_map_or are_digits behind true
behind_raw None = refl
behind_raw (Some bytes) = digits_raw bytes

decimal_raw : (word : Name) → is_decimal (str_to_ascii_lowercase word) ≡ is_decimal word
decimal_raw word =
    (λ i. are_digits (split_raw word i).0 && option_map_or are_digits (split_raw word i).1 true) ∙ (λ i. digits_raw (at_point word).0 i && behind_raw (at_point word).1 i)

behind_same : (behind : Option Name) → option_map_or are_digits behind true ≡ true → unwrap_or (option_map str_to_ascii_lowercase behind) [] ≡ unwrap_or behind []
behind_same None is = refl
behind_same (Some bytes) is = digits_same bytes is

behind_length : (behind : Option Name) → option_map_or length (option_map str_to_ascii_lowercase behind) 0 ≡ option_map_or length behind 0
behind_length None = refl
behind_length (Some bytes) = length-map bytes to_ascii_lowercase

digits_of_raw : (word : Name) → is_decimal word ≡ true → digits_of (str_to_ascii_lowercase word) ≡ digits_of word
digits_of_raw word is =
    let both : (are_digits (at_point word).0 ≡ true) × (option_map_or are_digits (at_point word).1 true ≡ true) = and_parts _ _ is in
    (λ i. (split_raw word i).0 ++ unwrap_or (split_raw word i).1 []) ∙ (λ i. digits_same (at_point word).0 both.0 i ++ behind_same (at_point word).1 both.1 i)

places_of_raw : (word : Name) → places_of (str_to_ascii_lowercase word) ≡ places_of word
places_of_raw word = (λ i. option_map_or length (split_raw word i).1 0) ∙ behind_length (at_point word).1

module _ (at : ℕ) (text : Name) where
  word : Ref
  word = record { name = str_to_ascii_lowercase text; at = at }

  numeral_of : Ref → Option Numeral
  numeral_of found = Some (record { at = found.at; len = length found.name; digits = digits_value (digits_of found.name); places = places_of found.name })

  pub is_number : IsSome (numeral_place (expression.Word at (str_to_ascii_lowercase text))) → is_decimal text ≡ true
  unfolding word numeral_of
  is_number has = by (is_decimal (str_to_ascii_lowercase text)) refl
    where
      by : (b : Bool) → is_decimal (str_to_ascii_lowercase text) ≡ b → is_decimal text ≡ true
      by true is = sym (decimal_raw text) ∙ is
      by false is = absurd (let none = ap (λ b. is_some ((if b then Some word else None) >>= numeral_of)) is in cc)

  pub numeral_here : (digits : Name) (places : ℕ) → is_decimal text ≡ true → digits_of text ≡ digits → places_of text ≡ places
      → numeral_place (expression.Word at (str_to_ascii_lowercase text)) ≡ Some (record { at = at; len = length text; digits = digits_value digits; places = places })
  unfolding word numeral_of
  numeral_here digits places number all behind =
      (λ i. (if (decimal_raw text ∙ number) i then Some word else None) >>= numeral_of)
      ∙ (λ i. Some (record { at = at; len = length-map text to_ascii_lowercase i; digits = digits_value ((digits_of_raw text number ∙ all) i); places = (places_of_raw text ∙ behind) i }))

-- ---- numbers that fit

-- more digits make no number less
pub grown : (value : ℕ) (digits : Name) → value ≤ fold with_digit value digits
grown value [] = omega arith
grown value (digit ∷ digits) = omega (arith, grown (with_digit value digit) digits)

pub overflown : (value i d whole : ℕ) (digits : Name) → i < length digits → fold with_digit value (drop i digits) ≡ whole
    → (with_digit value (get_or digits i d) < 2 ^ 64 → ⊥) → whole < 2 ^ 64 → ⊥
overflown value i d whole digits within is large fits =
    let split : fold with_digit value (drop i digits) ≡ fold with_digit (with_digit value (get_or digits i d)) (drop (i + 1) digits) = at_drop_more (fold with_digit value) digits i d within in
    large (omega (arith, fits, split, is, grown (with_digit value (get_or digits i d)) (drop (i + 1) digits)))

-- a byte before what is split at its point
abbrev split_by : Bool → ℕ → Name → Name × Option Name
split_by is_point byte bytes = if is_point then ([], Some bytes) else (byte ∷ (at_point bytes).0, (at_point bytes).1)

places_within : (word : Name) → places_of word ≤ length word
places_within [] = omega arith
places_within (byte ∷ bytes) = by (byte == 46) (places_within bytes)
  where
    by : (is_point : Bool) → places_of bytes ≤ length bytes → option_map_or length (split_by is_point byte bytes).1 0 ≤ suc (length bytes)
    by true less = omega arith
    by false less = omega (arith, less)

pub has_room : (text : Name) (decimal : Decimal) → IsDecimalOf decimal text → HasRoom (str_to_ascii_lowercase text) → HasRoomFor text decimal
has_room text decimal is room =
    let same : digits_of (str_to_ascii_lowercase text) ≡ decimal.whole.now ++ decimal.places.now = digits_of_raw text is.number ∙ is.digits in
    record {
      len = omega (arith, room.len, length-map text to_ascii_lowercase);
      digits = subst (λ (digits : Name). digits_value digits < 2 ^ 64) same room.digits;
      places = omega (arith, room.len, length-map text to_ascii_lowercase, places_within text, is.places);
    }

module _ (text : Name) (at : ℕ) (decimal : Decimal) (is : IsDecimalOf decimal text) where
  pub numeral_read : (result : Option Numeral) → SomeIff result (HasRoomFor text decimal) (numeral_with text at decimal)
      → IfSome result (λ numeral. numeral_place (expression.Word at (str_to_ascii_lowercase text)) ≡ Some numeral)
  numeral_read None read = tt
  numeral_read (Some numeral) read = numeral_here at text (decimal.whole.now ++ decimal.places.now) (length decimal.places.now) is.number is.digits is.places ∙ ap Some (sym read.1)

  pub numeral_fits : (result : Option Numeral) → SomeIff result (HasRoomFor text decimal) (numeral_with text at decimal) → HasRoom (str_to_ascii_lowercase text) → IsSome result
  numeral_fits None read room = absurd (read (has_room text decimal is room))
  numeral_fits (Some numeral) read room = refl
