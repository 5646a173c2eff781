-- A word of digits alone is a number without a point.
use Rattle.std.proofs.Common.{◌≡◌, ◌∙◌, ap, true, false, ◌&&◌, [], ◌∷◌, ◌++◌, refl, Some, None, arith, length}
use Rattle.std.specs.Prelude.{◌==◌, if◌then◌else◌, unwrap_or}
use Rattle.std.specs.List.{list_all}
use Rattle.std.specs.Option.{option_map_or}
use Rattle.std.proofs.lemmas.Bool.{and_parts}
use Rattle.std.proofs.lemmas.Bool.Decides.{nat_tests}
use Rattle.std.proofs.lemmas.List.{append-nil}
use Rattle.p3_base.specs.Words.{is_digit}
use Rattle.p3_task.specs.Names.{Name}
use Rattle.p3_task.specs.Decimals.{at_point, are_digits, is_decimal, digits_of, places_of}

pub record IsWhole (word : Name) : Type 0 where
  pub number : is_decimal word ≡ true
  pub digits : digits_of word ≡ word
  pub places : places_of word ≡ 0

no_point : (word : Name) → list_all is_digit word ≡ true → at_point word ≡ (word, None)
no_point [] e = refl
no_point (byte ∷ bytes) e =
    let both : (is_digit byte ≡ true) × (list_all is_digit bytes ≡ true) = and_parts (is_digit byte) (list_all is_digit bytes) e in
    let other : (byte == 46) ≡ false = grind (arith, nat_tests, both.0) in
    λ i. if other i then ([], Some bytes) else (byte ∷ (no_point bytes both.1 i).0, (no_point bytes both.1 i).1)

digits_alone : (word : Name) → are_digits word ≡ true → list_all is_digit word ≡ true
digits_alone [] e = refl
digits_alone (byte ∷ bytes) e = e

pub whole_number : (word : Name) → are_digits word ≡ true → IsWhole word
whole_number word e =
    let apart : at_point word ≡ (word, None) = no_point word (digits_alone word e) in
    record {
      number = (λ i. are_digits (apart i).0 && option_map_or are_digits (apart i).1 true) ∙ ap (λ fits. fits && true) e;
      digits = (λ i. (apart i).0 ++ unwrap_or (apart i).1 []) ∙ append-nil word;
      places = λ i. option_map_or length (apart i).1 0;
    }
