-- That many names differ: by a number which is read off each name, and rises along the list.
use Rattle.std.proofs.Common.{◌≡◌, ◌∙◌, ⊎_elim, ℕ, zero, suc, ◌+◌, ◌*◌, ◌-◌, ◌<◌, ◌≤◌, ◌^◌, Bool, true, false, not, List, [], ◌∷◌, ◌++◌, length, refl, sym, ap, subst, arith, true≢false, append-nil}
use Rattle.std.specs.Prelude.{codes, decimal, bytes_eq, if◌then◌else◌}
use Rattle.std.specs.List.{list_all}
use Rattle.std.specs.Str.Parse.{digits_value}
use Rattle.std.proofs.lemmas.Bool.{and_parts, and_from, or_cases, false_from_ne_true, not_from_false}
use Rattle.std.proofs.lemmas.Fmt.{decimal_is_IsNumeral, decimal_nonempty}
use Rattle.std.proofs.lemmas.Slice.Eq.{bytes_eq-Decides}
use Rattle.p3_base.specs.Words.{Name, is_digit, has_name, are_different}
use Rattle.p3_base.proofs.CopyLemmas.{decimal_digits}
use Rattle.p3_simulation.specs.Naming.{numbered, all_numbered}

-- ---- the parts of a name: a word, a number, and what follows

abbrev pub word_of : Name → Name
word_of [] = []
word_of (byte ∷ bytes) = if is_digit byte then [] else byte ∷ word_of bytes

abbrev pub past_word : Name → Name
past_word [] = []
past_word (byte ∷ bytes) = if is_digit byte then byte ∷ bytes else past_word bytes

abbrev pub digits_of : Name → Name
digits_of [] = []
digits_of (byte ∷ bytes) = if is_digit byte then byte ∷ digits_of bytes else []

abbrev pub past_digits : Name → Name
past_digits [] = []
past_digits (byte ∷ bytes) = if is_digit byte then past_digits bytes else byte ∷ bytes

-- the text does not begin with a digit
abbrev pub stops : Name → Bool
stops [] = true
stops (byte ∷ bytes) = not (is_digit byte)

abbrev pub has_no_digit : Name → Bool
has_no_digit word = list_all (λ byte. not (is_digit byte)) word

no_digit : (b : Bool) → not b ≡ true → b ≡ false
no_digit false e = refl
no_digit true e = absurd (true≢false (sym e))

digits_end : (digits rest : Name) → list_all is_digit digits ≡ true → stops rest ≡ true → (digits_of (digits ++ rest) ≡ digits) × (past_digits (digits ++ rest) ≡ rest)
digits_end [] [] all stop = (refl, refl)
digits_end [] (byte ∷ rest) all stop = let e = no_digit (is_digit byte) stop in (λ i. if e i then byte ∷ digits_of rest else [], λ i. if e i then past_digits rest else byte ∷ rest)
digits_end (byte ∷ digits) rest all stop =
    let parts = and_parts (is_digit byte) _ all in
    let more = digits_end digits rest parts.1 stop in
    ((λ i. if parts.0 i then byte ∷ digits_of (digits ++ rest) else []) ∙ ap (λ ds. byte ∷ ds) more.0, (λ i. if parts.0 i then past_digits (digits ++ rest) else byte ∷ (digits ++ rest)) ∙ more.1)

-- a number is read as it was written
number_read : (n : ℕ) (rest : Name) → n < 2 ^ 64 → stops rest ≡ true → (digits_value 10 (digits_of (decimal n ++ rest)) ≡ n) × (past_digits (decimal n ++ rest) ≡ rest)
number_read n rest fits stop =
    let ends = digits_end (decimal n) rest (decimal_digits n) stop in
    (ap (digits_value 10) ends.0 ∙ (decimal_is_IsNumeral n fits).1, ends.1)

-- a word ends at a digit
word_ends : (digits rest : Name) → 0 < length digits → list_all is_digit digits ≡ true → (word_of (digits ++ rest) ≡ []) × (past_word (digits ++ rest) ≡ digits ++ rest)
word_ends [] rest some all = absurd (omega (arith, some))
word_ends (byte ∷ digits) rest some all =
    let first = (and_parts (is_digit byte) _ all).0 in
    (λ i. if first i then [] else byte ∷ word_of (digits ++ rest), λ i. if first i then byte ∷ (digits ++ rest) else past_word (digits ++ rest))

word_read : (word digits rest : Name) → has_no_digit word ≡ true → 0 < length digits → list_all is_digit digits ≡ true → (word_of (word ++ (digits ++ rest)) ≡ word) × (past_word (word ++ (digits ++ rest)) ≡ digits ++ rest)
word_read [] digits rest plain some all = word_ends digits rest some all
word_read (byte ∷ word) digits rest plain some all =
    let parts = and_parts (not (is_digit byte)) _ plain in
    let e = no_digit (is_digit byte) parts.0 in
    let more = word_read word digits rest parts.1 some all in
    ((λ i. if e i then [] else byte ∷ word_of (word ++ (digits ++ rest))) ∙ ap (λ w. byte ∷ w) more.0, (λ i. if e i then byte ∷ (word ++ (digits ++ rest)) else past_word (word ++ (digits ++ rest))) ∙ more.1)

-- what is made of the three parts of a name
module _ {A : Type 0} (make : Name → ℕ → Name → A) where
  abbrev pub read : Name → A
  read name = make (word_of name) (digits_value 10 (digits_of (past_word name))) (past_digits (past_word name))

  pub read_written : (word : Name) (n : ℕ) (rest : Name) → has_no_digit word ≡ true → n < 2 ^ 64 → stops rest ≡ true → read (word ++ (decimal n ++ rest)) ≡ make word n rest
  read_written word n rest plain fits stop =
      let w = word_read word (decimal n) rest plain (decimal_nonempty n fits) (decimal_digits n) in
      let number = number_read n rest fits stop in
      (λ i. make (w.0 i) (digits_value 10 (digits_of (w.1 i))) (past_digits (w.1 i))) ∙ (λ i. make word (number.0 i) (number.1 i))

  pub read_numbered : (word : Name) (n : ℕ) → has_no_digit word ≡ true → n < 2 ^ 64 → read (numbered word n) ≡ make word n []
  read_numbered word n plain fits = ap (λ digits. read (word ++ digits)) (sym (append-nil (decimal n))) ∙ read_written word n [] plain fits refl

-- ---- the key of a name

-- digits of what is violated, as a number
abbrev pub bits_value : ℕ → Name → ℕ
bits_value before [] = before
bits_value before (byte ∷ bytes) = bits_value (2 * before + (byte - 48)) bytes

abbrev pub past_first : Name → Name
past_first [] = []
past_first (byte ∷ bytes) = bytes

-- where an answer stands among the actions of its step
abbrev pub answer_place : Name → ℕ → Name → ℕ
answer_place word place rest = if bytes_eq word (codes "y") then 256 + 2 * place else (if bytes_eq word (codes "n") then 257 + 2 * place else 1023)

-- the classes of names in their order, and the numbers in each of them
abbrev pub key_of : Name → ℕ → Name → ℕ
key_of word n rest =
    if bytes_eq word (codes "f") then n else (
    if bytes_eq word (codes "m") then 2 ^ 64 + n else (
    if bytes_eq word (codes "go") then 2 * 2 ^ 64 else (
    if bytes_eq word (codes "e") then 3 * 2 ^ 64 + n else (
    if bytes_eq word (codes "h") then 4 * 2 ^ 64 + n else (
    if bytes_eq word (codes "c") then 5 * 2 ^ 64 + n else (
    if bytes_eq word (codes "s") then 6 * 2 ^ 64 + 1024 * n + bits_value 0 (past_first rest) else (
    if bytes_eq word (codes "q") then 6 * 2 ^ 64 + 1024 * n + read answer_place rest else (
    if bytes_eq word (codes "finish") then 7 * 2 ^ 64 else (
    if bytes_eq word (codes "collect") then 8 * 2 ^ 64 + 2 * n else 8 * 2 ^ 64 + 2 * n + 1)))))))))

abbrev pub key : Name → ℕ
key name = read key_of name

-- ---- names with rising keys

module _ (good : Name → Bool) where
  -- good names, their keys from one number on and below another
  abbrev pub AreRisen : ℕ → ℕ → List Name → Type 0
  AreRisen low high [] = low ≤ high
  AreRisen low high (name ∷ names) = (low ≤ key name) × (good name ≡ true) × AreRisen (key name + 1) high names

  pub risen_join : (low middle high : ℕ) (first second : List Name) → AreRisen low middle first → AreRisen middle high second → AreRisen low high (first ++ second)
  risen_join low middle high [] [] first_risen second_risen = omega (arith, first_risen, second_risen)
  risen_join low middle high [] (name ∷ second) first_risen second_risen = let least = second_risen.0 in (omega (arith, least, first_risen), second_risen.1, second_risen.2)
  risen_join low middle high (name ∷ first) second first_risen second_risen = (first_risen.0, first_risen.1, risen_join (key name + 1) middle high first second first_risen.2 second_risen)

  pub risen_wider : (low high least most : ℕ) (names : List Name) → least ≤ low → high ≤ most → AreRisen low high names → AreRisen least most names
  risen_wider low high least most [] below above risen = omega (arith, below, above, risen)
  risen_wider low high least most (name ∷ names) below above risen = let first = risen.0 in (omega (arith, below, first), risen.1, risen_wider (key name + 1) high (key name + 1) most names (omega arith) above risen.2)

  -- one name
  pub risen_one : (name : Name) (at low high : ℕ) → key name ≡ at → good name ≡ true → low ≤ at → at < high → AreRisen low high (name ∷ [])
  risen_one name at low high is fine below above = (omega (arith, is, below), fine, omega (arith, is, above))

  pub all_good : (low high : ℕ) (names : List Name) → AreRisen low high names → list_all good names ≡ true
  all_good low high [] risen = refl
  all_good low high (name ∷ names) risen = and_from (good name) _ risen.1 (all_good (key name + 1) high names risen.2)

  risen_above : (low high : ℕ) (names : List Name) → AreRisen low high names → (name : Name) → has_name names name ≡ true → low ≤ key name
  risen_above low high [] risen name has = absurd (true≢false (sym has))
  risen_above low high (first ∷ names) risen name has = ⊎_elim
      (λ same. subst (λ n. low ≤ key n) ((bytes_eq-Decides first name).0 same) risen.0)
      (λ later. let more = risen_above (key first + 1) high names risen.2 name later in let least = risen.0 in omega (arith, more, least))
      (or_cases (bytes_eq first name) _ has)

  pub risen_differ : (low high : ℕ) (names : List Name) → AreRisen low high names → are_different names ≡ true
  risen_differ low high [] risen = refl
  risen_differ low high (name ∷ names) risen = and_from (not (has_name names name)) _
      (not_from_false (has_name names name) (false_from_ne_true (has_name names name) (λ has. let more = risen_above (key name + 1) high names risen.2 name has in omega (arith, more))))
      (risen_differ (key name + 1) high names risen.2)

  -- names of one letter, by rising numbers
  pub risen_numbered : (base : ℕ) (letter : Name) → has_no_digit letter ≡ true → ((n : ℕ) → key_of letter n [] ≡ base + n) → ((n : ℕ) → n < 2 ^ 64 → good (numbered letter n) ≡ true) → (count from : ℕ) → from + count ≤ 2 ^ 64
      → AreRisen (base + from) (base + (from + count)) (all_numbered letter from count)
  risen_numbered base letter plain keyed fine zero from room = omega arith
  risen_numbered base letter plain keyed fine (suc count) from room =
      let here = read_numbered key_of letter from plain (omega (arith, room)) ∙ keyed from in (
        omega (arith, here),
        fine from (omega (arith, room)),
        risen_wider (base + (from + 1)) (base + (from + 1 + count)) (key (numbered letter from) + 1) (base + (from + suc count)) (all_numbered letter (from + 1) count) (omega (arith, here)) (omega arith)
            (risen_numbered base letter plain keyed fine count (from + 1) (omega (arith, room))),
      )

-- what is asked of the names may be less
pub risen_weaker : (good other : Name → Bool) → ((name : Name) → good name ≡ true → other name ≡ true) → (low high : ℕ) (names : List Name) → AreRisen good low high names → AreRisen other low high names
risen_weaker good other weaker low high [] risen = risen
risen_weaker good other weaker low high (name ∷ names) risen = (risen.0, weaker name risen.1, risen_weaker good other weaker (key name + 1) high names risen.2)
