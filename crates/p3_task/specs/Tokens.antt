-- A text as parentheses and words.
use Rattle.std.specs.Prelude.{ℕ, ◌+◌, Bool, true, false, not, ◌&&◌, ◌||◌, ◌==◌, nat_le, if◌then◌else◌, List, [], ◌∷◌, Option, Some, None}
use Rattle.std.specs.Char.{to_ascii_lowercase}
pub use Rattle.p3_base.specs.Words.{is_of_word}

-- a token with its offset; a word is lowered, and has as many bytes as it has in the text
pub data Token : Type 0 where
  Open : (at : ℕ) → Token
  Close : (at : ℕ) → Token
  Word : (at : ℕ) → (text : List ℕ) → Token

-- the tokens before the first foreign byte, and the offset of that byte where there is one
pub record Tokens : Type 0 where
  pub tokens : List Token
  pub foreign : Option ℕ

abbrev pub is_blank : ℕ → Bool
is_blank byte = byte == 32 || (nat_le 9 byte && nat_le byte 13)

-- a `;` opens a comment, and a line feed ends it
abbrev pub is_comment_after : Bool → ℕ → Bool
is_comment_after true byte = not (byte == 10)
is_comment_after false byte = byte == 59

abbrev pub before : Token → Tokens → Tokens
before token later = record { tokens = token ∷ later.tokens; foreign = later.foreign }

-- A byte of a word goes in front of the word that begins at the next offset, or is a word of its own.
abbrev pub prefixed : ℕ → ℕ → List Token → List Token
prefixed at byte (Word next text ∷ later) =
    if next == at + 1 then Word at (to_ascii_lowercase byte ∷ text) ∷ later else Word at (to_ascii_lowercase byte ∷ []) ∷ Word next text ∷ later
prefixed at byte later = Word at (to_ascii_lowercase byte ∷ []) ∷ later

-- the tokens of a byte outside comments and of what follows it
abbrev pub with_byte : ℕ → ℕ → Tokens → Tokens
with_byte at byte later =
    if byte == 40 then before (Open at) later
    else (if byte == 41 then before (Close at) later
    else (if is_of_word byte then record { tokens = prefixed at byte later.tokens; foreign = later.foreign }
    else (if is_blank byte || byte == 59 then later
    else record { tokens = []; foreign = Some at })))

-- the tokens of the bytes from an offset on, where a comment is open there or is not
unfoldable pub tokens_from : Bool → ℕ → List ℕ → Tokens
tokens_from is_comment at [] = record { tokens = []; foreign = None }
tokens_from is_comment at (byte ∷ bytes) =
    let later = tokens_from (is_comment_after is_comment byte) (at + 1) bytes in
    if is_comment then later else with_byte at byte later

abbrev pub tokens_of : List ℕ → Tokens
tokens_of text = tokens_from false 0 text
