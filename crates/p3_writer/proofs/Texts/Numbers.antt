-- Decimal numbers, as they are written: each is one word, and is read as the number.
use Rattle.std.proofs.Common.{◌≡◌, ◌∙◌, ℕ, ◌+◌, ◌*◌, ◌-◌, ◌<◌, ◌^◌, true, ◌&&◌, [], ◌∷◌, fold, length, refl, ap, arith, Some}
use Rattle.std.specs.List.{list_all}
use Rattle.std.specs.Char.{digit_value}
use Rattle.std.specs.Fmt.{decimal}
use Rattle.std.specs.Str.Parse.{AllDigits, digits_value_after}
use Rattle.std.proofs.lemmas.Bool.{and_parts}
use Rattle.std.proofs.lemmas.Bool.Decides.{nat_tests}
use Rattle.std.proofs.lemmas.Fmt.{decimal_is_IsNumeral}
use Rattle.std.proofs.lemmas.Str.{digit_value_digit}
use Rattle.std.proofs.lemmas.Str.Parse.{digit_from_value}
use Rattle.p3_base.specs.Words.{Name, are_digits, is_digit, is_lowered}
use Rattle.p3_base.proofs.CopyLemmas.{decimal_digits}
use Rattle.p3_task.specs.Decimals.{digits_of, digits_value, places_of}
use Rattle.p3_task.specs.Grammar.Words.{◌>>=◌, numeral_place}
use Rattle.p3_task.proofs.DecimalLemmas.{IsWhole, whole_number}
use Rattle.p3_task.specs.declared.effect.Numeral.{Numeral}
use Rattle.p3_task.specs.declared.expression.Expression.TheVariants.{Word}
use Rattle.p3_writer.proofs.Texts.Places.{at_offset, checked}
use Rattle.p3_lexer.proofs.WordLemmas.{IsWord}

-- a number, with what its text needs
pub record Number : Type 0 where
  pub value : ℕ
  pub fits : IsWord (decimal value)
  pub all_digits : are_digits (decimal value) ≡ true
  pub reads : digits_value (decimal value) ≡ value

digit_lowered : (digit : ℕ) → is_digit digit ≡ true → is_lowered digit ≡ true
digit_lowered digit e = grind (arith, nat_tests, e)

pub digits_lowered : (text : Name) → list_all is_digit text ≡ true → list_all is_lowered text ≡ true
digits_lowered [] e = refl
digits_lowered (digit ∷ text) e =
    let both = and_parts (is_digit digit) (list_all is_digit text) e in
    λ i. digit_lowered digit both.0 i && digits_lowered text both.1 i

abbrev pub with_digit : ℕ → ℕ → ℕ
with_digit value digit = value * 10 + (digit - 48)

pub value_by_digits : (text : Name) (front : ℕ) → AllDigits 10 text → fold with_digit front text ≡ digits_value_after 10 front text
value_by_digits [] front all = refl
value_by_digits (digit ∷ text) front all =
    let same : digit - 48 ≡ digit_value digit = omega (arith, digit_value_digit digit (digit_from_value digit all.0)) in
    ap (λ d. fold with_digit (front * 10 + d) text) same ∙ value_by_digits text (front * 10 + digit_value digit) all.1

pub word_of_digits : (text : Name) → 0 < length text → list_all is_digit text ≡ true → IsWord text × (are_digits text ≡ true)
word_of_digits [] some e = absurd (omega arith)
word_of_digits (digit ∷ text) some e = (digits_lowered (digit ∷ text) e, e)

abbrev pub number : (n : ℕ) → n < 2 ^ 64 → Number
number n small =
    let known = decimal_is_IsNumeral n small in
    let both : IsWord (decimal n) × (are_digits (decimal n) ≡ true) = word_of_digits (decimal n) known.0.0 (decimal_digits n) in
    record { value = n; fits = both.0; all_digits = both.1; reads = value_by_digits (decimal n) 0 known.0.1 ∙ known.1 }

module _ (at : ℕ) (n : Number) where
  abbrev pub numeral_at : Numeral
  numeral_at = record { at = at; len = length (decimal n.value); digits = digits_value (decimal n.value); places = 0 }

  pub number_found : numeral_place (Word at (decimal n.value)) ≡ Some numeral_at
  number_found =
      let whole : IsWhole (decimal n.value) = whole_number (decimal n.value) n.all_digits in
      ap (λ passes. checked passes (at_offset (decimal n.value) at) >>= λ word. Some (record { at = word.at; len = length word.name; digits = digits_value (digits_of word.name); places = places_of word.name })) whole.number
      ∙ (λ i. Some (record { at = at; len = length (decimal n.value); digits = digits_value (whole.digits i); places = whole.places i }))
