-- The marks of a text are parentheses and words, and each list of such marks has a text, in which a blank follows each.
use Rattle.std.proofs.Common.{◌≡◌, refl, sym, ap, subst, ℕ, ◌+◌, Bool, true, false, ◌&&◌, ◌||◌, List, [], ◌∷◌, ◌++◌, map, None, arith}
use Rattle.std.specs.Prelude.{◌==◌, if◌then◌else◌, length, codes}
use Rattle.std.specs.Str.{bytes_eq, str_to_ascii_lowercase}
use Rattle.std.proofs.lemmas.Slice.Eq.{bytes_eq-Decides}
use Rattle.std.proofs.lemmas.List.{length-map}
use Rattle.p3_base.specs.declared.refusal.Code.{Code}
use Rattle.p3_base.specs.declared.refusal.Role.{Role}
use Rattle.p3_task.specs.Refusals.Places.{refusal_at, refusal_at_token}
use Rattle.p3_lexer.specs.Lexing.{token_of}
use Rattle.std.specs.List.{list_all}
use Rattle.std.specs.Char.{to_ascii_lowercase}
use Rattle.std.proofs.lemmas.Bool.{and_parts, and_from}
use Rattle.std.proofs.lemmas.Bool.Decides.{nat_tests}
use Rattle.p3_base.specs.Words.{is_lowered}
use Rattle.p3_task.specs.Names.{Name}
use Rattle.p3_task.specs.Tokens.{Token, Tokens, Open, Close, Word, before, is_blank, is_of_word, is_comment_after, prefixed, with_byte, tokens_from}
use Rattle.p3_task.specs.PlanTexts.{Mark, Opens, Closes, Names, mark_of}
use Rattle.p3_lexer.proofs.WordLemmas.{is_word, past, word_read, prefixed_by, read_by}

-- a mark of some text
abbrev pub is_lexed : Mark → Bool
is_lexed (Names word) = is_word word
is_lexed mark = true

abbrev are_lexed : List Token → Bool
are_lexed tokens = list_all is_lexed (map mark_of tokens)

-- ---- a text of marks

-- the bytes of the marks, each before a blank
pub laid : List Mark → List ℕ
laid [] = []
laid (Opens ∷ marks) = 40 ∷ 32 ∷ laid marks
laid (Closes ∷ marks) = 41 ∷ 32 ∷ laid marks
laid (Names word ∷ marks) = word ++ 32 ∷ laid marks

-- the tokens have these marks, and no byte is foreign
pub record HasMarks (marks : List Mark) (found : Tokens) : Type 0 where
  pub same : map mark_of found.tokens ≡ marks
  pub known : found.foreign ≡ None

more_marks : (token : Token) (marks : List Mark) (later : Tokens) → HasMarks marks later → HasMarks (mark_of token ∷ marks) (before token later)
more_marks token marks later is = record { same = ap (λ m. mark_of token ∷ m) is.same; known = is.known }

-- THE TEXT of marks has them.
pub laid_from : (marks : List Mark) → list_all is_lexed marks ≡ true → (at : ℕ) → HasMarks marks (tokens_from false at (laid marks))
unfolding laid tokens_from
laid_from [] lexed at = record { same = refl; known = refl }
laid_from (Opens ∷ marks) lexed at = more_marks (Open at) marks (tokens_from false (at + 1 + 1) (laid marks)) (laid_from marks lexed (at + 1 + 1))
laid_from (Closes ∷ marks) lexed at = more_marks (Close at) marks (tokens_from false (at + 1 + 1) (laid marks)) (laid_from marks lexed (at + 1 + 1))
laid_from (Names word ∷ marks) lexed at =
    let both = and_parts (is_word word) (list_all is_lexed marks) lexed in
    subst (HasMarks (Names word ∷ marks)) (sym (word_read word both.0 at (32 ∷ laid marks) refl))
    (more_marks (Word at word) marks (tokens_from false (past at word + 1) (laid marks)) (laid_from marks both.1 (past at word + 1)))

-- ---- the marks of a text

lowered_of_word : (byte : ℕ) → is_of_word byte ≡ true → is_lowered (to_ascii_lowercase byte) ≡ true
lowered_of_word byte own = grind (arith, nat_tests, own)

-- a byte of a word, and then the bytes of one
word_more : (byte : ℕ) (word : Name) → is_of_word byte ≡ true → list_all is_lowered word ≡ true → is_word (to_ascii_lowercase byte ∷ word) ≡ true
word_more byte word own fits = and_from (is_lowered (to_ascii_lowercase byte)) (list_all is_lowered word) (lowered_of_word byte own) fits

word_all : (word : Name) → is_word word ≡ true → list_all is_lowered word ≡ true
word_all [] fits = refl
word_all (first ∷ word) fits = fits

prefixed_lexed : (at byte : ℕ) (tokens : List Token) → is_of_word byte ≡ true → are_lexed tokens ≡ true → are_lexed (prefixed at byte tokens) ≡ true
prefixed_lexed at byte [] own later = and_from _ true (word_more byte [] own refl) refl
prefixed_lexed at byte (Open next ∷ tokens) own later = and_from _ (are_lexed tokens) (word_more byte [] own refl) later
prefixed_lexed at byte (Close next ∷ tokens) own later = and_from _ (are_lexed tokens) (word_more byte [] own refl) later
prefixed_lexed at byte (Word next text ∷ tokens) own later = by (next == at + 1)
  where
    by : (follows : Bool) → are_lexed (prefixed_by follows at byte next text tokens) ≡ true
    by true =
        let both = and_parts (is_word text) (are_lexed tokens) later in
        and_from _ (are_lexed tokens) (word_more byte text own (word_all text both.0)) both.1
    by false = and_from _ (is_word text && are_lexed tokens) (word_more byte [] own refl) later

byte_lexed : (opens closes goes_on is_silent : Bool) (at byte : ℕ) (later : Tokens) → (goes_on ≡ true → is_of_word byte ≡ true) → are_lexed later.tokens ≡ true
    → are_lexed (read_by opens closes goes_on is_silent at byte later).tokens ≡ true
byte_lexed true closes goes_on is_silent at byte later own lexed = lexed
byte_lexed false true goes_on is_silent at byte later own lexed = lexed
byte_lexed false false true is_silent at byte later own lexed = prefixed_lexed at byte later.tokens (own refl) lexed
byte_lexed false false false true at byte later own lexed = lexed
byte_lexed false false false false at byte later own lexed = refl

if_lexed : (is_comment : Bool) (later other : Tokens) → are_lexed later.tokens ≡ true → are_lexed other.tokens ≡ true → are_lexed (if is_comment then later else other).tokens ≡ true
if_lexed true later other first second = first
if_lexed false later other first second = second

-- EACH mark of a text is lexed.
pub text_lexed : (is_comment : Bool) (at : ℕ) (bytes : List ℕ) → list_all is_lexed (map mark_of (tokens_from is_comment at bytes).tokens) ≡ true
unfolding tokens_from
text_lexed is_comment at [] = refl
text_lexed is_comment at (byte ∷ bytes) =
    let later : Tokens = tokens_from (is_comment_after is_comment byte) (at + 1) bytes in
    let lexed : are_lexed later.tokens ≡ true = text_lexed (is_comment_after is_comment byte) (at + 1) bytes in
    if_lexed is_comment later (with_byte at byte later) lexed
    (byte_lexed (byte == 40) (byte == 41) (is_of_word byte) (is_blank byte || byte == 59) at byte later (λ own. own) lexed)

-- ---- the place of a token

same_length : (word text : List ℕ) → bytes_eq word text ≡ true → length text ≡ length word
same_length word text same = ap length (sym ((bytes_eq-Decides word text).0 same))

refusal_by : (code : Code) (role : Role) (offset : ℕ) (word : List ℕ) (opens closes : Bool) → bytes_eq word (codes "(") ≡ opens → bytes_eq word (codes ")") ≡ closes
    → refusal_at_token code role (if opens then Open offset else (if closes then Close offset else Word offset (str_to_ascii_lowercase word))) ≡ refusal_at code role offset (length word)
refusal_by code role offset word true close is_open is_close = ap (refusal_at code role offset) (same_length word (codes "(") is_open)
refusal_by code role offset word false true is_open is_close = ap (refusal_at code role offset) (same_length word (codes ")") is_close)
refusal_by code role offset word false false is_open is_close = ap (refusal_at code role offset) (length-map word to_ascii_lowercase)

pub refusal_of_token : (code : Code) (role : Role) (offset : ℕ) (word : List ℕ) → refusal_at_token code role (token_of offset word) ≡ refusal_at code role offset (length word)
refusal_of_token code role offset word = refusal_by code role offset word (bytes_eq word (codes "(")) (bytes_eq word (codes ")")) refl refl
