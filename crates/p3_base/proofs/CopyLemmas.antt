-- The number in the name of a copy.
use Rattle.std.proofs.Common.{◌≡◌, ◌∙◌, ℕ, zero, suc, ◌<◌, ◌^◌, ◌%◌, ◌/◌, Bool, true, false, ◌&&◌, ⊎_elim, List, [], ◌∷◌, ◌++◌, refl, sym, ap, arith}
use Rattle.std.specs.Prelude.{◌==◌, if◌then◌else◌, codes}
use Rattle.std.specs.List.{list_all, starts_with}
use Rattle.std.specs.Fmt.{decimal, digits, digits_onto, digit_glyph}
use Rattle.std.proofs.lemmas.Bool.{and_parts, or_cases, or_left, or_right}
use Rattle.std.proofs.lemmas.Bool.Decides.{nat_tests}
use Rattle.std.proofs.lemmas.Fmt.{decimal_injective}
use Rattle.p3_base.specs.Copies.{IsNamedFor, IsQuestionOf, Answer, Copy, End, Question, copy_name, copy_prefix, is_action_of, is_copy_of, is_question_of}
use Rattle.p3_base.specs.Words.{Name, is_digit}

-- ---- decimal numbers are made of digits

glyph_is_digit : (n : ℕ) → is_digit (digit_glyph false (n % 10)) ≡ true
glyph_is_digit n = grind (arith, nat_tests)

digits_onto_all : (count n : ℕ) (behind : List ℕ) → list_all is_digit behind ≡ true → list_all is_digit (digits_onto count 10 false n behind) ≡ true
digits_onto_all zero n behind e = e
digits_onto_all (suc count) n behind e =
    let more : list_all is_digit (digit_glyph false (n % 10) ∷ behind) ≡ true = λ i. glyph_is_digit n i && e i in
    by (n / 10 == 0) _ _ more (digits_onto_all count (n / 10) (digit_glyph false (n % 10) ∷ behind) more)
  where
    by : (last : Bool) (text others : List ℕ) → list_all is_digit text ≡ true → list_all is_digit others ≡ true
        → list_all is_digit (if last then text else others) ≡ true
    by true text others first second = first
    by false text others first second = second

pub decimal_digits : (n : ℕ) → list_all is_digit (decimal n) ≡ true
unfolding digits
decimal_digits n = digits_onto_all 64 n [] refl

-- ---- the number in a name

-- the needle stands in front
abbrev pub begins : List ℕ → List ℕ → Bool
begins xs [] = true
begins [] (n ∷ needle) = false
begins (x ∷ xs) (n ∷ needle) = (n == x) && begins xs needle

pub begins_with : (xs needle : List ℕ) → starts_with ◌==◌ xs needle ≡ begins xs needle
begins_with xs [] = refl
begins_with [] (n ∷ needle) = refl
begins_with (x ∷ xs) (n ∷ needle) = ap (λ b. (n == x) && b) (begins_with xs needle)

same_here : (n : ℕ) → (n == n) ≡ true
same_here n = grind (arith, nat_tests)

-- its own digits, and the byte behind them
pub own_digits : (ds : List ℕ) (mark : ℕ) (rest : List ℕ) → begins (ds ++ mark ∷ rest) (ds ++ mark ∷ []) ≡ true
own_digits [] mark rest = λ i. same_here mark i && true
own_digits (d ∷ ds) mark rest = λ i. same_here d i && own_digits ds mark rest i

is_no_digit : (digit mark : ℕ) → is_digit digit ≡ true → is_digit mark ≡ false → (digit == mark) ≡ true → ⊥
is_no_digit digit mark is plain same =
    let equal : digit ≡ mark = grind (arith, nat_tests, same) in
    let bad : true ≡ false = sym is ∙ ap is_digit equal ∙ plain in
    cc

-- no others, where the bytes behind the digits are none
only_digits : (last mark : ℕ) → is_digit last ≡ false → is_digit mark ≡ false → (ds es rest : List ℕ) → list_all is_digit ds ≡ true → list_all is_digit es ≡ true
    → begins (ds ++ last ∷ rest) (es ++ mark ∷ []) ≡ true → ds ≡ es
only_digits last mark stops halts [] [] rest d e is = refl
only_digits last mark stops halts [] (e ∷ es) rest d is_es is =
    absurd (is_no_digit e last (and_parts (is_digit e) (list_all is_digit es) is_es).0 stops (and_parts (e == last) _ is).0)
only_digits last mark stops halts (d ∷ ds) [] rest is_ds e is =
    let same : d ≡ mark = grind (arith, nat_tests, (and_parts (mark == d) _ is).0) in
    let bad : true ≡ false = sym (and_parts (is_digit d) (list_all is_digit ds) is_ds).0 ∙ ap is_digit same ∙ halts in
    absurd (cc)
only_digits last mark stops halts (d ∷ ds) (e ∷ es) rest is_ds is_es is =
    let both = and_parts (e == d) (begins (ds ++ last ∷ rest) (es ++ mark ∷ [])) is in
    let same : d ≡ e = grind (arith, nat_tests, both.0) in
    let later = only_digits last mark stops halts ds es rest (and_parts (is_digit d) (list_all is_digit ds) is_ds).1 (and_parts (is_digit e) (list_all is_digit es) is_es).1 both.1 in
    λ i. same i ∷ later i

pub copy_of_own : (number : ℕ) (rest : Name) → is_copy_of number (copy_name number rest) ≡ true
copy_of_own number rest = begins_with (copy_name number rest) (copy_prefix number) ∙ own_digits (decimal number) 118 rest

-- a copy is one of no other step
pub copy_of_only : (number other : ℕ) (rest : Name) → number < 2 ^ 64 → other < 2 ^ 64 → is_copy_of other (copy_name number rest) ≡ true → number ≡ other
copy_of_only number other rest small little is =
    decimal_injective number other small little
    (only_digits 118 118 refl refl (decimal number) (decimal other) rest (decimal_digits number) (decimal_digits other) (sym (begins_with (copy_name number rest) (copy_prefix other)) ∙ is))

-- a name that begins with another letter is a copy of none
pub copy_of_none : (number byte : ℕ) (rest : Name) → (115 == byte) ≡ false → is_copy_of number (byte ∷ rest) ≡ false
copy_of_none number byte rest differ = begins_with (byte ∷ rest) (copy_prefix number) ∙ ap (λ b. b && begins rest (decimal number ++ codes "v")) differ

-- ---- the names of the actions of a step

-- a name of an answer, or of the end
pub record QuestionParts (number : ℕ) (name : Name) : Type 0 where
  pub byte : ℕ
  pub rest : List ℕ
  pub stops : is_digit byte ≡ false
  pub is : name ≡ 113 ∷ (decimal number ++ byte ∷ rest)
  pub begins : is_question_of number name ≡ true

behind_first : (number mark : ℕ) (rest : List ℕ) → starts_with ◌==◌ (113 ∷ (decimal number ++ mark ∷ rest)) (113 ∷ (decimal number ++ mark ∷ [])) ≡ true
behind_first number mark rest = begins_with (113 ∷ (decimal number ++ mark ∷ rest)) (113 ∷ (decimal number ++ mark ∷ [])) ∙ own_digits (decimal number) mark rest

pub question_parts : (number : ℕ) (name : Name) → IsQuestionOf number name → QuestionParts number name
question_parts number name (Answer true place) = record {
  byte = 121;
  rest = decimal place;
  stops = refl;
  is = refl;
  begins = or_left _ _ (behind_first number 121 (decimal place));
}
question_parts number name (Answer false place) = record {
  byte = 110;
  rest = decimal place;
  stops = refl;
  is = refl;
  begins = or_right _ _ (or_left _ _ (behind_first number 110 (decimal place)));
}
question_parts number name End = record {
  byte = 101;
  rest = codes "nd";
  stops = refl;
  is = refl;
  begins = or_right _ _ (or_right _ _ (behind_first number 101 (codes "nd")));
}

-- what begins so with the number of another step has that number
same_number : (number other last mark : ℕ) (rest : List ℕ) → number < 2 ^ 64 → other < 2 ^ 64 → is_digit last ≡ false → is_digit mark ≡ false
    → starts_with ◌==◌ (113 ∷ (decimal number ++ last ∷ rest)) (113 ∷ (decimal other ++ mark ∷ [])) ≡ true → number ≡ other
same_number number other last mark rest small little stops halts is =
    decimal_injective number other small little
    (only_digits last mark stops halts (decimal number) (decimal other) rest (decimal_digits number) (decimal_digits other)
    (sym (begins_with (113 ∷ (decimal number ++ last ∷ rest)) (113 ∷ (decimal other ++ mark ∷ []))) ∙ is))

question_of_only : (number other last : ℕ) (rest : List ℕ) → number < 2 ^ 64 → other < 2 ^ 64 → is_digit last ≡ false
    → is_question_of other (113 ∷ (decimal number ++ last ∷ rest)) ≡ true → number ≡ other
question_of_only number other last rest small little stops is =
    ⊎_elim (same_number number other last 121 rest small little stops refl)
    (λ more. ⊎_elim (same_number number other last 110 rest small little stops refl) (same_number number other last 101 rest small little stops refl) (or_cases _ _ more))
    (or_cases _ _ is)

-- the name of an action of a step begins as one of that step, and of no other
pub own_action : (number : ℕ) (name : Name) → IsNamedFor number name → is_action_of number name ≡ true
own_action number name (Copy rest) = or_left _ _ (copy_of_own number rest)
own_action number name (Question _ question) = or_right _ _ (question_parts number name question).begins

pub only_action : (number other : ℕ) (name : Name) → number < 2 ^ 64 → other < 2 ^ 64 → IsNamedFor number name → is_action_of other name ≡ true → number ≡ other
only_action number other name small little (Copy rest) is =
    ⊎_elim (copy_of_only number other rest small little) (λ asked. absurd (let bad : false ≡ true = asked in cc)) (or_cases _ _ is)
only_action number other name small little (Question _ question) is =
    let parts = question_parts number name question in
    let named : is_action_of other (113 ∷ (decimal number ++ parts.byte ∷ parts.rest)) ≡ true = ap (is_action_of other) (sym parts.is) ∙ is in
    ⊎_elim (λ copied. absurd (let bad : false ≡ true = copied in cc))
    (question_of_only number other parts.byte parts.rest small little parts.stops) (or_cases _ _ named)
