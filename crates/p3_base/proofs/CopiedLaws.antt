-- The number between two letters at the front of a name.
use Rattle.std.proofs.Common.{◌≡◌, ◌∙◌, ◌≢◌, ℕ, zero, suc, ◌+◌, ◌*◌, ◌-◌, ◌<◌, ◌≤◌, ◌^◌, Bool, true, false, List, [], ◌∷◌, ◌++◌, length, take, drop, get_or, refl, sym, ap, subst, arith, rules, Option, Some, None, Result, Ok, Err, append_assoc}
use Rattle.std.specs.Prelude.{◌==◌, codes, IfSome, IfNone, is_some}
use Rattle.std.specs.Result.{result_ok}
use Rattle.std.specs.Fmt.{decimal}
use Rattle.std.specs.Str.{all_ascii_digits, IsUtf8}
use Rattle.std.specs.Str.Parse.{ParsesUnsigned}
use Rattle.std.proofs.lemmas.Bool.{and_parts, false_from_ne_true, or_from, or_left, or_right}
use Rattle.std.proofs.lemmas.Bool.Decides.{nat_tests}
use Rattle.std.proofs.Math.Seq.{drop-cons, get_or-append_seam, take-append_seam}
use Rattle.std.proofs.Math.ListN.{get_or-append}
use Rattle.std.proofs.lemmas.Fmt.{IsAscii-decimal, decimal_digit, decimal-digits_value, digits_decimal, first_decimal, parse-decimal}
use Rattle.std.proofs.lemmas.List.{length-append, take-append-drop}
use Rattle.std.proofs.lemmas.Str.{IsUtf8-from_ascii}
use Rattle.std.proofs.lemmas.Str.Parse.{IsNumeralModel, numerals_by_fold, not_in_digits, parse_plain}
use Rattle.p3_base.specs.Copies.{IsNamedFor, copy_prefix, copy_name, is_action_of, is_copy_of, is_question_of}
use Rattle.p3_base.specs.Words.{Name, is_digit}
use Rattle.p3_base.proofs.CopyLemmas.{begins, begins_with, only_action, own_action, own_digits}
use Rattle.p3_base.specs.Copied.{IsFirst, IsNoCopy, IsNoNumber, IsNoQuestion, IsNotNumbered, IsOfNoStep, is_numbered, is_padded}

-- ---- numbers as words of digits

abbrev value_on : ℕ → List ℕ → ℕ
value_on n [] = n
value_on n (c ∷ cs) = value_on (10 * n + (c - 48)) cs

own : IsNumeralModel (λ digits. all_ascii_digits digits ≡ true) (value_on 0)
own = numerals_by_fold _ (search rules) value_on (search rules)

with_a_plus : (digits : List ℕ) → get_or digits 0 0 ≡ 43 → 0 < length digits → IsNoNumber digits
with_a_plus digits plus some number small is =
    not_in_digits own (decimal number) 43 (digits_decimal own number (omega (arith, small))) (λ range. omega (arith, range)) 0 (subst (λ (ds : List ℕ). 0 < length ds) (sym is) some) (ap (λ (ds : List ℕ). get_or ds 0 0) is ∙ plus)

with_a_zero : (digits : List ℕ) → get_or digits 0 0 ≡ 48 → 1 < length digits → IsNoNumber digits
with_a_zero digits zeroed long zero small is = let short : length (decimal 0) ≡ length digits = ap (λ (ds : List ℕ). length ds) is in let one : length (decimal 0) ≡ 1 = ap (λ (ds : List ℕ). length ds) (decimal_digit 0 (omega arith)) in omega (arith, short, long, one)
with_a_zero digits zeroed long (suc number) small is = let high = first_decimal (suc number) (omega arith) (omega (arith, small)) in let here = ap (λ (ds : List ℕ). get_or ds 0 0) is ∙ zeroed in omega (arith, high, here)

-- a word with such a front is no number
pub padded_is_none : (digits : List ℕ) → is_padded digits ≡ true → IsNoNumber digits
padded_is_none [] e = absurd (cc)
padded_is_none (first ∷ []) e = let plus : first ≡ 43 = grind (arith, nat_tests, e) in with_a_plus (first ∷ []) plus (omega arith)
padded_is_none (first ∷ second ∷ rest) e = by (first == 43) refl
  where
    by : (b : Bool) → (first == 43) ≡ b → IsNoNumber (first ∷ second ∷ rest)
    by true f = let plus : first ≡ 43 = grind (arith, nat_tests, f) in with_a_plus (first ∷ second ∷ rest) plus (omega arith)
    by false f = let zeroed : first ≡ 48 = grind (arith, nat_tests, e, f) in with_a_zero (first ∷ second ∷ rest) zeroed (omega arith)

no_plus : (digits : List ℕ) → is_padded digits ≡ false → get_or digits 0 0 ≢ 43
no_plus [] e h = absurd (omega (arith, h))
no_plus (first ∷ []) e h = grind (arith, nat_tests, e, h)
no_plus (first ∷ second ∷ rest) e h = grind (arith, nat_tests, e, h)

no_zero : (digits : List ℕ) → is_padded digits ≡ false → get_or digits 0 0 ≡ 48 → length digits ≡ 1
no_zero [] e h = absurd (omega (arith, h))
no_zero (first ∷ []) e h = refl
no_zero (first ∷ second ∷ rest) e h = absurd (grind (arith, nat_tests, e, h))

pub no_text : (digits : List ℕ) → (IsUtf8 digits → ⊥) → IsNoNumber digits
no_text digits none number small is = none (subst IsUtf8 is (IsUtf8-from_ascii (decimal number) (IsAscii-decimal number (omega (arith, small)))))

-- what is parsed of any other word
pub parsed : (E : Type 0) (digits : List ℕ) (r : Result ℕ E) → is_padded digits ≡ false → ParsesUnsigned 32 10 digits r
    → IfSome (result_ok r) (λ number. decimal number ≡ digits) × IfNone (result_ok r) (IsNoNumber digits)
parsed E digits (Ok number) plain parses =
    let is = parse_plain own {E = E} 32 digits (Ok number) parses (no_plus digits plain) in
    (ap decimal is.1 ∙ decimal-digits_value own digits is.0.0 is.0.1 (no_zero digits plain) (omega (arith, is.0.2)), tt)
parsed E digits (Err fault) plain parses =
    (tt, λ number small is. let bad = parse-decimal {E = E} 32 number digits (Err fault) small (omega (arith, small)) (sym is) parses in cc)

-- ---- the number in front of a mark

-- it stands before the first mark
pub numbered : (mark : ℕ) (bytes : List ℕ) (place : ℕ) → IsFirst mark bytes place → (number : ℕ) → decimal number ≡ take place bytes → is_numbered mark number bytes ≡ true
numbered mark bytes place first number is =
    let split : bytes ≡ decimal number ++ mark ∷ drop (suc place) bytes =
    sym (take-append-drop place bytes)
    ∙ (λ i. sym is i ++ drop-cons bytes place 0 first.within i)
    ∙ ap (λ byte. decimal number ++ byte ∷ drop (suc place) bytes) first.here in
    ap (is_numbered mark number) split
    ∙ begins_with (decimal number ++ mark ∷ drop (suc place) bytes) (decimal number ++ mark ∷ [])
    ∙ own_digits (decimal number) mark (drop (suc place) bytes)

-- what begins with a number
prefix_is : (bytes needle : List ℕ) → begins bytes needle ≡ true → bytes ≡ needle ++ drop (length needle) bytes
prefix_is bytes [] e = refl
prefix_is [] (n ∷ needle) e = absurd (cc)
prefix_is (x ∷ bytes) (n ∷ needle) e =
    let both = and_parts (n == x) (begins bytes needle) e in
    let same : x ≡ n = grind (arith, nat_tests, both.0) in
    λ i. same i ∷ prefix_is bytes needle both.1 i

-- a byte that is no digit is out of their range
out_of_range : (mark : ℕ) → is_digit mark ≡ false → (48 ≤ mark) × (mark ≤ 57) → ⊥
out_of_range mark plain range = grind (arith, nat_tests, plain, range)

module _ (mark : ℕ) (plain : is_digit mark ≡ false) (bytes : List ℕ) (number : ℕ) (small : number < 2 ^ 32) (is : is_numbered mark number bytes ≡ true) where
  abbrev behind : List ℕ
  behind = drop (length (decimal number ++ mark ∷ [])) bytes

  split : bytes ≡ decimal number ++ mark ∷ behind
  split = prefix_is bytes (decimal number ++ mark ∷ []) (sym (begins_with bytes (decimal number ++ mark ∷ [])) ∙ is) ∙ append_assoc (decimal number) (mark ∷ []) behind

  mark_behind : get_or bytes (length (decimal number)) 0 ≡ mark
  mark_behind = ap (λ (list : List ℕ). get_or list (length (decimal number)) 0) split ∙ get_or-append_seam (decimal number) mark behind 0

  long : length (decimal number) < length bytes
  long = let h = ap (λ (list : List ℕ). length list) split in let l = length-append (decimal number) (mark ∷ behind) in omega (arith, h, l)

  no_mark : (k : ℕ) → k < length (decimal number) → get_or bytes k 0 ≢ mark
  no_mark k within here =
      not_in_digits own (decimal number) mark (digits_decimal own number (omega (arith, small))) (out_of_range mark plain) k within
      (sym (get_or-append (decimal number) (mark ∷ behind) 0 k within) ∙ ap (λ (list : List ℕ). get_or list k 0) (sym split) ∙ here)

  pub own_place : (place : ℕ) → IsFirst mark bytes place → decimal number ≡ take place bytes
  own_place place first =
      let low : place < length (decimal number) → ⊥ = λ h. no_mark place h first.here in
      let high : length (decimal number) < place → ⊥ = λ h. first.before (length (decimal number)) h mark_behind in
      let same : place ≡ length (decimal number) = omega (arith, low, high) in
      sym (ap (λ n. take n bytes) same ∙ ap (λ (list : List ℕ). take (length (decimal number)) list) split ∙ take-append_seam (decimal number) (mark ∷ behind))

pub no_number : (mark : ℕ) → is_digit mark ≡ false → (bytes : List ℕ) (place : ℕ) → IsFirst mark bytes place → IsNoNumber (take place bytes) → IsNotNumbered mark bytes
no_number mark plain bytes place first none number small = false_from_ne_true (is_numbered mark number bytes) (λ e. none number small (own_place mark plain bytes number small e place first))

pub no_mark_at_all : (mark : ℕ) → is_digit mark ≡ false → (bytes : List ℕ) → ((k : ℕ) → k < length bytes → get_or bytes k 0 ≢ mark) → IsNotNumbered mark bytes
no_mark_at_all mark plain bytes none number small =
    false_from_ne_true (is_numbered mark number bytes) (λ e. none (length (decimal number)) (long mark plain bytes number small e) (mark_behind mark plain bytes number small e))

-- what is found in front of a mark, by what its digits are
pub in_front : (mark : ℕ) → is_digit mark ≡ false → (bytes : List ℕ) (place : ℕ) → IsFirst mark bytes place
    → (r : Option ℕ) → IfSome r (λ number. decimal number ≡ take place bytes) → IfNone r (IsNoNumber (take place bytes))
    → IfSome r (λ number. is_numbered mark number bytes ≡ true) × IfNone r (IsNotNumbered mark bytes)
in_front mark plain bytes place first (Some number) some none = (numbered mark bytes place first number some, tt)
in_front mark plain bytes place first None some none = (tt, no_number mark plain bytes place first none)

-- what a copy's name is made of
pub copy_is : (name : Name) (number : ℕ) → is_copy_of number name ≡ true → name ≡ copy_name number (drop (length (copy_prefix number)) name)
copy_is name number is =
    prefix_is name (copy_prefix number) (sym (begins_with name (copy_prefix number)) ∙ is) ∙ ap (λ rest. 115 ∷ rest) (append_assoc (decimal number) (codes "v") (drop (length (copy_prefix number)) name))

-- ---- the step to which an action belongs

module _ (name : Name) where
  -- it is the one for which the action is named
  owner : (r : Option ℕ) → IfSome r (λ number. number < 2 ^ 32) → IfSome r (λ number. is_action_of number name ≡ true) → IfNone r (IsOfNoStep name)
      → (number : ℕ) → number < 2 ^ 32 → IsNamedFor number name → r ≡ Some number
  owner (Some other) low is none number small named = ap Some (sym (only_action number other name (omega (arith, small)) (omega (arith, low)) named is))
  owner None low is none number small named = let bad : true ≡ false = sym (own_action number name named) ∙ none number small in absurd (cc)

  pub owner_of_copy : (copied : Option ℕ) → is_some copied ≡ true → IfSome copied (λ number. number < 2 ^ 32) → IfSome copied (λ number. is_copy_of number name ≡ true)
      → (number : ℕ) → number < 2 ^ 32 → IsNamedFor number name → copied ≡ Some number
  owner_of_copy (Some other) found low is = owner (Some other) low (or_left _ _ is) tt
  owner_of_copy None found low is = absurd (cc)

  pub owner_of_question : (copied asking : Option ℕ) → is_some copied ≡ false → IfNone copied (IsNoCopy name)
      → IfSome asking (λ number. number < 2 ^ 32) → IfSome asking (λ number. is_question_of number name ≡ true) → IfNone asking (IsNoQuestion name)
      → (number : ℕ) → number < 2 ^ 32 → IsNamedFor number name → asking ≡ Some number
  owner_of_question (Some number) _ found _ _ _ _ = absurd (cc)
  owner_of_question None (Some number) found _ low is _ = owner (Some number) low (or_right _ _ is) tt
  owner_of_question None None found copies _ _ questions = owner None tt tt (λ number small. or_from _ _ (copies number small) (questions number small))
