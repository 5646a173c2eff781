-- The names of a target are names of the grammar, made of bytes of words, and no action's name ends with `c` and a number.
use Rattle.std.proofs.Common.{◌≡◌, ◌∙◌, ℕ, ◌<◌, ◌^◌, Bool, true, false, not, ◌&&◌, List, [], ◌∷◌, ◌++◌, length, refl, sym, ap, arith, true≢false}
use Rattle.std.specs.Prelude.{◌==◌, codes, decimal, bytes_eq}
use Rattle.std.specs.List.{list_all, list_any}
use Rattle.std.proofs.lemmas.Bool.{and_parts, and_from, or_from, or_left, or_right, false_from_ne_true, not_from_false}
use Rattle.std.proofs.lemmas.Bool.Decides.{nat_tests}
use Rattle.std.proofs.lemmas.Fmt.{decimal_nonempty}
use Rattle.std.proofs.lemmas.List.Folds.{list_all-append}
use Rattle.std.proofs.lemmas.Slice.Eq.{bytes_eq-Decides}
use Rattle.p3_base.specs.Copies.{copy_name, question_name}
use Rattle.p3_base.specs.Words.{Name, has_name, is_digit, is_lowered, is_name, is_predicate_name, reserved_words, total_cost, are_digits}
use Rattle.p3_base.proofs.CopyLemmas.{decimal_digits}
use Rattle.p3_formula.specs.Targets.{ends_with_c_number}
use Rattle.p3_simulation.proofs.Bounds.{all_weaker}
use Rattle.p3_simulation.specs.Naming.{numbered, pattern}

abbrev pub is_atom_name : Name → Bool
is_atom_name name = is_predicate_name name && list_all is_lowered name

abbrev pub is_action_name : Name → Bool
is_action_name name = is_name name && (list_all is_lowered name && not (ends_with_c_number name))

-- ---- digits

digit_lowered : (byte : ℕ) → is_digit byte ≡ true → is_lowered byte ≡ true
digit_lowered byte digit = grind (arith, nat_tests)

digit_no_c : (byte : ℕ) → is_digit byte ≡ true → not (byte == 99) ≡ true
digit_no_c byte digit = grind (arith, nat_tests)

decimal_lowered : (n : ℕ) → list_all is_lowered (decimal n) ≡ true
decimal_lowered n = all_weaker is_digit is_lowered digit_lowered (decimal n) (decimal_digits n)

-- ---- words with a digit are not reserved

abbrev has_digit : Name → Bool
has_digit name = list_any is_digit name

other_name : (names : List Name) (name : Name) → list_all (λ word. not (has_digit word)) names ≡ true → has_digit name ≡ true → has_name names name ≡ false
other_name [] name plain digit = refl
other_name (word ∷ names) name plain digit =
    let parts = and_parts (not (has_digit word)) _ plain in
    or_from (bytes_eq word name) _
    (false_from_ne_true (bytes_eq word name) (λ same. true≢false (sym parts.0 ∙ ap (λ w. not (has_digit w)) ((bytes_eq-Decides word name).0 same) ∙ ap not digit)))
    (other_name names name parts.1 digit)

digit_behind : (word digits : Name) → 0 < length digits → list_all is_digit digits ≡ true → has_digit (word ++ digits) ≡ true
digit_behind [] [] some all = absurd (omega (arith, some))
digit_behind [] (byte ∷ digits) some all = or_left (is_digit byte) _ (and_parts (is_digit byte) _ all).0
digit_behind (byte ∷ word) digits some all = or_right (is_digit byte) _ (digit_behind word digits some all)

-- a letter and a number
pub atom_numbered : (letter : Name) → ((digits : Name) → is_name (letter ++ digits) ≡ true) → list_all is_lowered letter ≡ true → (n : ℕ) → n < 2 ^ 64 → is_atom_name (numbered letter n) ≡ true
atom_numbered letter begins low n fits =
    let digit = digit_behind letter (decimal n) (decimal_nonempty n fits) (decimal_digits n) in
    and_from _ _
    (and_from _ _ (and_from _ _ (begins (decimal n)) (not_from_false _ (other_name reserved_words (numbered letter n) refl digit)))
    (not_from_false _ (false_from_ne_true (bytes_eq (numbered letter n) total_cost) (λ same. true≢false (sym digit ∙ ap has_digit ((bytes_eq-Decides (numbered letter n) total_cost).0 same))))))
    (list_all-append is_lowered letter (decimal n) ∙ and_from _ _ low (decimal_lowered n))

-- ---- names of actions

no_c_number : (name : Name) → list_all (λ byte. not (byte == 99)) name ≡ true → ends_with_c_number name ≡ false
no_c_number [] none = refl
no_c_number (byte ∷ bytes) none =
    let parts = and_parts (not (byte == 99)) _ none in
    or_from ((byte == 99) && are_digits bytes) _ (by (byte == 99) parts.0) (no_c_number bytes parts.1)
  where
    by : (b : Bool) → not b ≡ true → (b && are_digits bytes) ≡ false
    by false e = refl
    by true e = absurd (true≢false (sym e))

decimal_no_c : (n : ℕ) → list_all (λ byte. not (byte == 99)) (decimal n) ≡ true
decimal_no_c n = all_weaker is_digit (λ byte. not (byte == 99)) digit_no_c (decimal n) (decimal_digits n)

-- a name without the letter `c`
plain_name : (name : Name) → is_name name ≡ true → list_all is_lowered name ≡ true → list_all (λ byte. not (byte == 99)) name ≡ true → is_action_name name ≡ true
plain_name name begins low none = and_from _ _ begins (and_from _ _ low (not_from_false _ (no_c_number name none)))

-- a word, a number and what follows
three_parts : (test : ℕ → Bool) (word : Name) (n : ℕ) (rest : Name) → list_all test word ≡ true → list_all test (decimal n) ≡ true → list_all test rest ≡ true → list_all test (word ++ (decimal n ++ rest)) ≡ true
three_parts test word n rest first second third = list_all-append test word (decimal n ++ rest) ∙ and_from _ _ first (list_all-append test (decimal n) rest ∙ and_from _ _ second third)

pattern_all : (test : ℕ → Bool) → test 48 ≡ true → test 49 ≡ true → (violated : List Bool) → list_all test (pattern violated) ≡ true
pattern_all test zeros ones [] = refl
pattern_all test zeros ones (true ∷ violated) = and_from (test 49) _ ones (pattern_all test zeros ones violated)
pattern_all test zeros ones (false ∷ violated) = and_from (test 48) _ zeros (pattern_all test zeros ones violated)

pub copy_spelled : (number : ℕ) (violated : List Bool) → is_action_name (copy_name number (pattern violated)) ≡ true
copy_spelled number violated = plain_name (copy_name number (pattern violated)) refl
    (three_parts is_lowered (codes "s") number (codes "v" ++ pattern violated) refl (decimal_lowered number) (pattern_all is_lowered refl refl violated))
    (three_parts (λ byte. not (byte == 99)) (codes "s") number (codes "v" ++ pattern violated) refl (decimal_no_c number) (pattern_all (λ byte. not (byte == 99)) refl refl violated))

pub answer_spelled : (number : ℕ) (rest : Name) → list_all is_lowered rest ≡ true → list_all (λ byte. not (byte == 99)) rest ≡ true → is_action_name (question_name number rest) ≡ true
answer_spelled number rest low none = plain_name (question_name number rest) refl
    (three_parts is_lowered (codes "q") number rest refl (decimal_lowered number) low)
    (three_parts (λ byte. not (byte == 99)) (codes "q") number rest refl (decimal_no_c number) none)

pub yes_spelled : (number place : ℕ) → is_action_name (question_name number (codes "y" ++ decimal place)) ≡ true
yes_spelled number place = answer_spelled number (codes "y" ++ decimal place) (decimal_lowered place) (decimal_no_c place)

pub no_spelled : (number place : ℕ) → is_action_name (question_name number (codes "n" ++ decimal place)) ≡ true
no_spelled number place = answer_spelled number (codes "n" ++ decimal place) (decimal_lowered place) (decimal_no_c place)

pub collect_spelled : (number : ℕ) → is_action_name (codes "collect" ++ decimal number) ≡ true
collect_spelled number = and_from (list_all is_lowered (decimal number)) _ (decimal_lowered number) (not_from_false _ (no_c_number (decimal number) (decimal_no_c number)))

pub forgo_spelled : (number : ℕ) → is_action_name (codes "forgo" ++ decimal number) ≡ true
forgo_spelled number = plain_name (codes "forgo" ++ decimal number) refl (decimal_lowered number) (decimal_no_c number)
