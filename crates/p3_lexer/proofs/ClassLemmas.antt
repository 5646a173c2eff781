-- Classes of words, told without letter case.
use Rattle.std.proofs.Common.{◌≡◌, ◌∙◌, refl, sym, ap, ℕ, Bool, true, false, ◌&&◌, ◌||◌, IsTrue, ◌↔◌, List, [], ◌∷◌, map, Option, Some, arith}
use Rattle.std.specs.List.{list_all}
use Rattle.std.proofs.lemmas.Bool.{and_parts}
use Rattle.p3_base.specs.Words.{reserved_words, has_name, is_digit}
use Rattle.p3_task.specs.Names.{Name, same_name}
use Rattle.std.specs.Bool.{one_answer}
use Rattle.std.specs.Char.{to_ascii_lowercase}
use Rattle.std.specs.Str.{bytes_eq}
use Rattle.std.proofs.lemmas.Slice.Eq.{bytes_eq-Decides}
use Rattle.p3_lexer.specs.Words.{begins_with_letters, goes_on_as_decimal}
use Rattle.std.specs.Prelude.{◌==◌, if◌then◌else◌}
use Rattle.std.specs.Option.{option_map_or}
use Rattle.std.proofs.lemmas.Bool.Decides.{nat_tests}
use Rattle.p3_task.specs.Decimals.{at_point, are_digits, is_decimal}

-- words that are alike without letter case are the same once their letters are lowered
pub same_lowered : (b : Bool) (word text : List ℕ) → IsTrue b ↔ (map to_ascii_lowercase word ≡ map to_ascii_lowercase text) → map to_ascii_lowercase text ≡ text
    → b ≡ bytes_eq text (map to_ascii_lowercase word)
same_lowered b word text is lowered =
    one_answer {P = text ≡ map to_ascii_lowercase word} b (bytes_eq text (map to_ascii_lowercase word)) ((λ yes. sym (is.0 yes ∙ lowered)), (λ same. is.1 (sym same ∙ sym lowered))) (bytes_eq-Decides text (map to_ascii_lowercase word))

pub same_name_sym : (a b : Name) → same_name a b ≡ same_name b a
same_name_sym a b = one_answer {P = a ≡ b} (same_name a b) (same_name b a) (bytes_eq-Decides a b) ((λ yes. sym ((bytes_eq-Decides b a).0 yes)), (λ same. (bytes_eq-Decides b a).1 (sym same)))

-- ---- tests that each of some words passes

module _ (test : Name → Bool) (word : Name) (fails : test word ≡ false) where
  -- a word that fails it is not one that passes it
  pub differs : (name : Name) → test name ≡ true → same_name name word ≡ false
  differs name passes = by (same_name name word) refl
    where
      by : (b : Bool) → same_name name word ≡ b → b ≡ false
      by true same = absurd (let is = ap test ((bytes_eq-Decides name word).0 same) in cc)
      by false same = refl

  -- nor any of those
  pub none_passed : (names : List Name) → list_all test names ≡ true → has_name names word ≡ false
  none_passed [] all = refl
  none_passed (name ∷ names) all =
      let both = and_parts (test name) (list_all test names) all in
      ap (λ b. b || has_name names word) (differs name both.0) ∙ none_passed names both.1

-- so the test may come first
pub test_first : (test : Name → Bool) (names : List Name) → list_all test names ≡ true → (word : Name) → (test word && has_name names word) ≡ has_name names word
test_first test names all word = by (test word) refl
  where
    by : (b : Bool) → test word ≡ b → (b && has_name names word) ≡ has_name names word
    by true is = refl
    by false is = sym (none_passed test word is names all)

-- each reserved word begins with two letters
pub letters_first : (word : Name) → (begins_with_letters word && has_name reserved_words word) ≡ has_name reserved_words word
letters_first word = test_first begins_with_letters reserved_words refl word

-- ---- numbers, byte by byte

-- a byte before what is split at its point
abbrev split : Bool → ℕ → Name → Name × Option Name
split is_point byte bytes = if is_point then ([], Some bytes) else (byte ∷ (at_point bytes).0, (at_point bytes).1)

goes_on_by : (is_point is_digit_here : Bool) (byte : ℕ) (bytes : Name) → (byte == 46) ≡ is_point → is_digit byte ≡ is_digit_here
    → goes_on_as_decimal (byte ∷ bytes) ≡ (if is_point then are_digits bytes else (is_digit_here && goes_on_as_decimal bytes))
goes_on_by true here byte bytes point digit = λ i. list_all is_digit (split (point i) byte bytes).0 && option_map_or are_digits (split (point i) byte bytes).1 true
goes_on_by false true byte bytes point digit =
    (λ i. list_all is_digit (split (point i) byte bytes).0 && option_map_or are_digits (split (point i) byte bytes).1 true)
    ∙ (λ i. (digit i && list_all is_digit (at_point bytes).0) && option_map_or are_digits (at_point bytes).1 true)
goes_on_by false false byte bytes point digit =
    (λ i. list_all is_digit (split (point i) byte bytes).0 && option_map_or are_digits (split (point i) byte bytes).1 true)
    ∙ (λ i. (digit i && list_all is_digit (at_point bytes).0) && option_map_or are_digits (at_point bytes).1 true)

pub point_here : (byte : ℕ) (bytes : Name) → byte ≡ 46 → goes_on_as_decimal (byte ∷ bytes) ≡ are_digits bytes
point_here byte bytes is = ap (λ b. goes_on_as_decimal (b ∷ bytes)) is

pub digit_here : (byte : ℕ) (bytes : Name) → is_digit byte ≡ true → goes_on_as_decimal (byte ∷ bytes) ≡ goes_on_as_decimal bytes
digit_here byte bytes is = goes_on_by false true byte bytes (grind (arith, nat_tests, is)) is

pub other_here : (byte : ℕ) (bytes : Name) → (byte == 46) ≡ false → is_digit byte ≡ false → goes_on_as_decimal (byte ∷ bytes) ≡ false
other_here byte bytes no_point no_digit = goes_on_by false false byte bytes no_point no_digit

pub first_and_behind : (byte : ℕ) (bytes : Name) → is_decimal (byte ∷ bytes) ≡ (is_digit byte && goes_on_as_decimal bytes)
first_and_behind byte bytes = by (byte == 46) (is_digit byte) refl refl
  where
    by : (is_point here : Bool) → (byte == 46) ≡ is_point → is_digit byte ≡ here → is_decimal (byte ∷ bytes) ≡ (is_digit byte && goes_on_as_decimal bytes)
    by true here point digit =
        let other : is_digit byte ≡ false = grind (arith, nat_tests, point) in
        (λ i. are_digits (split (point i) byte bytes).0 && option_map_or are_digits (split (point i) byte bytes).1 true) ∙ (λ i. sym other i && goes_on_as_decimal bytes)
    by false true point digit =
        (λ i. are_digits (split (point i) byte bytes).0 && option_map_or are_digits (split (point i) byte bytes).1 true)
        ∙ (λ i. (digit i && list_all is_digit (at_point bytes).0) && option_map_or are_digits (at_point bytes).1 true) ∙ (λ i. sym digit i && goes_on_as_decimal bytes)
    by false false point digit =
        (λ i. are_digits (split (point i) byte bytes).0 && option_map_or are_digits (split (point i) byte bytes).1 true)
        ∙ (λ i. (digit i && list_all is_digit (at_point bytes).0) && option_map_or are_digits (at_point bytes).1 true) ∙ (λ i. sym digit i && goes_on_as_decimal bytes)
