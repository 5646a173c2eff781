-- The names of copies: what they count as, and the names that they are copies of.
use Rattle.std.proofs.Common.{◌≡◌, ◌∙◌, ℕ, ◌==◌, Bool, true, false, not, ◌&&◌, List, [], ◌∷◌, ◌++◌, map, refl, sym, ap, arith, true≢false}
use Rattle.std.specs.Prelude.{codes, decimal, find, if◌then◌else◌}
use Rattle.std.specs.Char.{to_ascii_lowercase}
use Rattle.std.specs.List.{list_all, range_with_len}
use Rattle.std.specs.Str.{str_to_ascii_lowercase}
use Rattle.std.proofs.lemmas.Bool.{and_parts, and_from, and_left, and_right, or_parts, not-true}
use Rattle.std.proofs.lemmas.Bool.Decides.{nat_tests}
use Rattle.std.proofs.lemmas.List.{append-nil, map-append}
use Rattle.std.proofs.lemmas.List.Folds.{list_all-append}
use Rattle.p3_base.specs.Copies.{copy_prefix, is_copy_of}
use Rattle.p3_base.specs.Words.{Name, are_digits, is_digit, is_lowered, is_name}
use Rattle.p3_base.proofs.CopyLemmas.{begins, begins_with, decimal_digits}
use Rattle.p3_formula.specs.Targets.{ends_with_c_number, lifted_number}
use Rattle.p3_formula.specs.declared.task.GroundTask.{GroundTask}
use Rattle.p3_flat.specs.Copies.{copy_named, digit_of, ending_of}
use Rattle.p3_flat.specs.Plans.{stem}

-- ---- digits

digits_of : (pattern : List Bool) → list_all is_digit (map digit_of pattern) ≡ true
digits_of [] = refl
digits_of (true ∷ pattern) = digits_of pattern
digits_of (false ∷ pattern) = digits_of pattern

ends_in_digits : (holds : Bool) (pattern : List Bool) → are_digits (digit_of holds ∷ map digit_of pattern) ≡ true
ends_in_digits true pattern = digits_of pattern
ends_in_digits false pattern = digits_of pattern

-- a `c` is no digit
no_digits : (front behind : Name) → list_all is_digit (front ++ 99 ∷ behind) ≡ false
no_digits [] behind = refl
no_digits (byte ∷ front) behind = and_right (is_digit byte) _ (no_digits front behind)

no_number : (front behind : Name) → are_digits (front ++ 99 ∷ behind) ≡ false
no_number [] behind = refl
no_number (byte ∷ front) behind = and_right (is_digit byte) _ (no_digits front behind)

-- ---- stems

stem_plain : (name : Name) → ends_with_c_number name ≡ false → stem name ≡ name
stem_plain [] h = refl
stem_plain (byte ∷ bytes) h =
    let parts = or_parts ((byte == 99) && are_digits bytes) (ends_with_c_number bytes) h in
    ap (λ b. if b then [] else (byte ∷ stem bytes)) parts.0 ∙ ap (λ rest. byte ∷ rest) (stem_plain bytes parts.1)

stem_ended : (name : Name) (holds : Bool) (pattern : List Bool) → stem (name ++ 99 ∷ digit_of holds ∷ map digit_of pattern) ≡ name
stem_ended [] holds pattern = ap (λ b. if b then [] else (99 ∷ stem (digit_of holds ∷ map digit_of pattern))) (ends_in_digits holds pattern)
stem_ended (byte ∷ name) holds pattern =
    ap (λ b. if b then [] else (byte ∷ stem (name ++ 99 ∷ digit_of holds ∷ map digit_of pattern))) (and_right (byte == 99) _ (no_number name (digit_of holds ∷ map digit_of pattern)))
    ∙ ap (λ rest. byte ∷ rest) (stem_ended name holds pattern)

pub stem_named : (name : Name) (pattern : List Bool) → ends_with_c_number name ≡ false → stem (copy_named name pattern) ≡ name
stem_named name [] h = ap stem (append-nil name) ∙ stem_plain name h
stem_named name (holds ∷ pattern) h = stem_ended name holds pattern

-- ---- steps

-- no byte is a `c`
abbrev has_no_c : Name → Bool
has_no_c name = list_all (λ byte. not (byte == 99)) name

digit_no_c : (byte : ℕ) → is_digit byte ≡ true → not (byte == 99) ≡ true
digit_no_c byte h = grind (arith, nat_tests, h)

digits_no_c : (bytes : Name) → list_all is_digit bytes ≡ true → has_no_c bytes ≡ true
digits_no_c [] h = refl
digits_no_c (byte ∷ bytes) h =
    let parts = and_parts (is_digit byte) _ h in
    and_from (not (byte == 99)) _ (digit_no_c byte parts.0) (digits_no_c bytes parts.1)

prefix_no_c : (number : ℕ) → has_no_c (copy_prefix number) ≡ true
prefix_no_c number =
    list_all-append (λ byte. not (byte == 99)) (codes "s" ++ decimal number) (codes "v")
    ∙ (λ i. digits_no_c (decimal number) (decimal_digits number) i && true)

-- what begins a name with `c` and more behind it begins the name
begins_named : (name behind needle : Name) → has_no_c needle ≡ true → begins (name ++ 99 ∷ behind) needle ≡ begins name needle
begins_named name behind [] h = refl
begins_named [] behind (byte ∷ needle) h = and_left (byte == 99) _ (not-true _ (and_parts (not (byte == 99)) _ h).0)
begins_named (first ∷ name) behind (byte ∷ needle) h = ap (λ b. (byte == first) && b) (begins_named name behind needle (and_parts (not (byte == 99)) _ h).1)

copy_of_same : (name : Name) (pattern : List Bool) (number : ℕ) → is_copy_of number (copy_named name pattern) ≡ is_copy_of number name
copy_of_same name [] number = ap (is_copy_of number) (append-nil name)
copy_of_same name (holds ∷ pattern) number =
    begins_with (copy_named name (holds ∷ pattern)) (copy_prefix number)
    ∙ begins_named name (digit_of holds ∷ map digit_of pattern) (copy_prefix number) (prefix_no_c number)
    ∙ sym (begins_with name (copy_prefix number))

-- a copy counts as the step that its action counts as
pub lifted_named : (G : GroundTask) (name : Name) (pattern : List Bool) → lifted_number G (copy_named name pattern) ≡ lifted_number G name
lifted_named G name pattern = λ i. find (λ number. copy_of_same name pattern number i) (range_with_len 0 G.step_count)

-- ---- bytes

pub name_named : (name : Name) (pattern : List Bool) → is_name name ≡ true → is_name (copy_named name pattern) ≡ true
name_named [] pattern h = absurd (true≢false (sym h))
name_named (byte ∷ name) pattern h = h

lowered_digits : (pattern : List Bool) → list_all is_lowered (map digit_of pattern) ≡ true
lowered_digits [] = refl
lowered_digits (true ∷ pattern) = lowered_digits pattern
lowered_digits (false ∷ pattern) = lowered_digits pattern

lowered_ending : (pattern : List Bool) → list_all is_lowered (ending_of pattern) ≡ true
lowered_ending [] = refl
lowered_ending (true ∷ pattern) = lowered_digits pattern
lowered_ending (false ∷ pattern) = lowered_digits pattern

pub spelled_named : (name : Name) (pattern : List Bool) → list_all is_lowered name ≡ true → list_all is_lowered (copy_named name pattern) ≡ true
spelled_named name pattern h = list_all-append is_lowered name (ending_of pattern) ∙ and_from (list_all is_lowered name) _ h (lowered_ending pattern)

lowercase_digits : (pattern : List Bool) → str_to_ascii_lowercase (map digit_of pattern) ≡ map digit_of pattern
lowercase_digits [] = refl
lowercase_digits (true ∷ pattern) = ap (λ rest. 49 ∷ rest) (lowercase_digits pattern)
lowercase_digits (false ∷ pattern) = ap (λ rest. 48 ∷ rest) (lowercase_digits pattern)

lowercase_ending : (pattern : List Bool) → str_to_ascii_lowercase (ending_of pattern) ≡ ending_of pattern
lowercase_ending [] = refl
lowercase_ending (true ∷ pattern) = ap (λ rest. 99 ∷ 49 ∷ rest) (lowercase_digits pattern)
lowercase_ending (false ∷ pattern) = ap (λ rest. 99 ∷ 48 ∷ rest) (lowercase_digits pattern)

pub lowered_copy : (name : Name) (pattern : List Bool) → str_to_ascii_lowercase name ≡ name → str_to_ascii_lowercase (copy_named name pattern) ≡ copy_named name pattern
lowered_copy name pattern low = map-append to_ascii_lowercase name (ending_of pattern) ∙ (λ i. low i ++ lowercase_ending pattern i)
