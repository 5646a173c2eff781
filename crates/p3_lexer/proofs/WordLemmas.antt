-- Words of a text: their bytes are one token, where no byte of a word follows.
use Rattle.std.proofs.Common.{◌≡◌, ◌∙◌, ℕ, ◌+◌, Bool, true, false, ◌||◌, not, List, [], ◌∷◌, ◌++◌, Some, refl, ap, arith}
use Rattle.std.specs.Prelude.{◌==◌, nat_le, if◌then◌else◌}
use Rattle.std.specs.List.{list_all}
use Rattle.std.specs.Char.{to_ascii_lowercase}
use Rattle.std.proofs.lemmas.Bool.{and_parts, not-true}
use Rattle.std.proofs.lemmas.Bool.Decides.{nat_tests}
use Rattle.p3_base.specs.Words.{is_lowered}
use Rattle.p3_task.specs.Names.{Name}
use Rattle.p3_task.specs.Tokens.{Token, Open, Close, Word, Tokens, is_blank, is_of_word, is_comment_after, before, prefixed, with_byte, tokens_from}

abbrev pub is_word : Name → Bool
is_word [] = false
is_word (byte ∷ bytes) = list_all is_lowered (byte ∷ bytes)

abbrev pub IsWord : Name → Type 0
IsWord text = is_word text ≡ true

-- no word goes on with these bytes
abbrev pub is_apart : List ℕ → Bool
is_apart [] = true
is_apart (byte ∷ bytes) = not (is_of_word byte)

-- the offset behind a word
abbrev pub past : ℕ → Name → ℕ
past at [] = at
past at (byte ∷ bytes) = past (at + 1) bytes

-- ---- bytes, by the tests of them

-- a byte of a word before a word, which it goes on with or not
abbrev pub prefixed_by : Bool → (at byte next : ℕ) → List ℕ → List Token → List Token
prefixed_by follows at byte next text later =
    if follows then Word at (to_ascii_lowercase byte ∷ text) ∷ later else Word at (to_ascii_lowercase byte ∷ []) ∷ Word next text ∷ later

abbrev with_word_byte : ℕ → ℕ → Tokens → Tokens
with_word_byte at byte later = record { tokens = prefixed at byte later.tokens; foreign = later.foreign }

abbrev pub read_by : (opens closes goes_on is_silent : Bool) → ℕ → ℕ → Tokens → Tokens
read_by opens closes goes_on is_silent at byte later =
    if opens then before (Open at) later
    else (if closes then before (Close at) later
    else (if goes_on then with_word_byte at byte later
    else (if is_silent then later
    else record { tokens = []; foreign = Some at })))

-- ---- where the first token begins

-- a word that comes first begins at the offset or later
abbrev is_from : ℕ → List Token → Bool
is_from low (Word next text ∷ later) = nat_le low next
is_from low _ = true

lower_from : (low : ℕ) (tokens : List Token) → is_from (low + 1) tokens ≡ true → is_from low tokens ≡ true
lower_from low [] e = refl
lower_from low (Open at ∷ later) e = refl
lower_from low (Close at ∷ later) e = refl
lower_from low (Word next text ∷ later) e = grind (arith, nat_tests, e)

prefixed_from : (low at byte : ℕ) (tokens : List Token) → nat_le low at ≡ true → is_from low (prefixed at byte tokens) ≡ true
prefixed_from low at byte [] own = own
prefixed_from low at byte (Open next ∷ later) own = own
prefixed_from low at byte (Close next ∷ later) own = own
prefixed_from low at byte (Word next text ∷ later) own = by (next == at + 1)
  where
    by : (follows : Bool) → is_from low (prefixed_by follows at byte next text later) ≡ true
    by true = own
    by false = own

with_byte_from : (low at byte : ℕ) (later : Tokens) → (is_of_word byte ≡ true → nat_le low at ≡ true) → is_from low later.tokens ≡ true
    → is_from low (with_byte at byte later).tokens ≡ true
with_byte_from low at byte later own behind = by (byte == 40) (byte == 41) (is_of_word byte) (is_blank byte || byte == 59) own
  where
    by : (opens closes goes_on is_silent : Bool) → (goes_on ≡ true → nat_le low at ≡ true)
        → is_from low (read_by opens closes goes_on is_silent at byte later).tokens ≡ true
    by true closes goes_on is_silent own = refl
    by false true goes_on is_silent own = refl
    by false false true is_silent own = prefixed_from low at byte later.tokens (own refl)
    by false false false true own = behind
    by false false false false own = refl

from_here : (bytes : List ℕ) (is_comment : Bool) (at : ℕ) → is_from at (tokens_from is_comment at bytes).tokens ≡ true
unfolding tokens_from
from_here [] is_comment at = refl
from_here (byte ∷ bytes) true at = lower_from at _ (from_here bytes (is_comment_after true byte) (at + 1))
from_here (byte ∷ bytes) false at =
    with_byte_from at at byte (tokens_from (is_comment_after false byte) (at + 1) bytes)
    (λ goes_on. grind (arith, nat_tests))
    (lower_from at _ (from_here bytes (is_comment_after false byte) (at + 1)))

from_next : (at : ℕ) (rest : List ℕ) → is_apart rest ≡ true → is_from (at + 1) (tokens_from false at rest).tokens ≡ true
unfolding tokens_from
from_next at [] apart = refl
from_next at (byte ∷ bytes) apart =
    let ends : is_of_word byte ≡ false = not-true (is_of_word byte) apart in
    with_byte_from (at + 1) at byte _ (λ goes_on. absurd (cc)) (from_here bytes (is_comment_after false byte) (at + 1))

-- ---- words

-- a byte is a word of its own where no word follows at once
alone : (at byte : ℕ) (tokens : List Token) → is_from (at + 1 + 1) tokens ≡ true
    → prefixed at byte tokens ≡ Word at (to_ascii_lowercase byte ∷ []) ∷ tokens
alone at byte [] e = refl
alone at byte (Open next ∷ later) e = refl
alone at byte (Close next ∷ later) e = refl
alone at byte (Word next text ∷ later) e =
    let differ : (next == at + 1) ≡ false = grind (arith, nat_tests, e) in
    ap (λ follows. prefixed_by follows at byte next text later) differ

record Lowered (byte : ℕ) : Type 0 where
  opens : (byte == 40) ≡ false
  closes : (byte == 41) ≡ false
  comments : (byte == 59) ≡ false
  goes_on : is_of_word byte ≡ true
  same : to_ascii_lowercase byte ≡ byte

lowered : (byte : ℕ) → is_lowered byte ≡ true → Lowered byte
lowered byte e = record {
  opens = grind (arith, nat_tests, e);
  closes = grind (arith, nat_tests, e);
  comments = grind (arith, nat_tests, e);
  goes_on = (and_parts _ _ e).0;
  same = grind (arith, nat_tests, e);
}

byte_read : (at byte : ℕ) (bytes : List ℕ) → Lowered byte
    → tokens_from false at (byte ∷ bytes) ≡ with_word_byte at byte (tokens_from false (at + 1) bytes)
unfolding tokens_from
byte_read at byte bytes own =
    (λ i. with_byte at byte (tokens_from (own.comments i) (at + 1) bytes))
    ∙ (λ i. read_by (own.opens i) (own.closes i) (own.goes_on i) (is_blank byte || byte == 59) at byte (tokens_from false (at + 1) bytes))

pub word_read : (text : Name) → IsWord text → (at : ℕ) (rest : List ℕ) → is_apart rest ≡ true
    → tokens_from false at (text ++ rest) ≡ before (Word at text) (tokens_from false (past at text) rest)
word_read [] fits at rest apart = absurd (cc)
word_read (byte ∷ []) fits at rest apart =
    let own : Lowered byte = lowered byte (and_parts _ _ fits).0 in
    let later : Tokens = tokens_from false (at + 1) rest in
    byte_read at byte rest own
    ∙ (λ i. record { tokens = alone at byte later.tokens (from_next (at + 1) rest apart) i; foreign = later.foreign })
    ∙ (λ i. before (Word at (own.same i ∷ [])) later)
word_read (byte ∷ next ∷ bytes) fits at rest apart =
    let both : (is_lowered byte ≡ true) × (list_all is_lowered (next ∷ bytes) ≡ true) = and_parts _ _ fits in
    let own : Lowered byte = lowered byte both.0 in
    let later : Tokens = tokens_from false (past (at + 1) (next ∷ bytes)) rest in
    let follows : (at + 1 == at + 1) ≡ true = grind (arith, nat_tests) in
    byte_read at byte (next ∷ bytes ++ rest) own ∙ ap (with_word_byte at byte) (word_read (next ∷ bytes) both.1 (at + 1) rest apart)
    ∙ (λ i. record { tokens = prefixed_by (follows i) at byte (at + 1) (next ∷ bytes) later.tokens; foreign = later.foreign })
    ∙ (λ i. before (Word at (own.same i ∷ next ∷ bytes)) later)
