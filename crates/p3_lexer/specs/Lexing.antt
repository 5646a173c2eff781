-- What a lexer has come to, and what it gives.
use Rattle.std.specs.Prelude.{◌≡◌, ℕ, ◌+◌, ◌<◌, ◌==◌, Bool, false, ◌||◌, if◌then◌else◌, List, [], ◌∷◌, take, drop, length, codes, Some, None, refl, ⊤}
use Rattle.std.specs.Coded.{Coded, code_by, coded×, coded_ℕ, coded_list}
use Rattle.std.specs.List.{prefix_len}
use Rattle.std.specs.Str.{bytes_eq, str_to_ascii_lowercase}
use Rattle.p3_task.specs.Tokens.{Token, Open, Close, Word, Tokens, is_blank, is_of_word, is_comment_after, before, tokens_from}
use Rattle.p3_lexer.specs.declared.lexer.Next.{Next}
use Rattle.p3_lexer.specs.declared.lexer.Next.TheVariants as next

-- the text, and the place up to which its tokens were given
pub record Progress : Type 0 where
  pub source : List ℕ
  pub at : ℕ

abbrev pub progress_code : Coded Progress
progress_code = code_by (List ℕ × ℕ) (coded× (coded_list coded_ℕ) coded_ℕ) (λ progress. (progress.source, progress.at)) (λ pair. record { source = pair.0; at = pair.1 }) (λ _. refl)

-- the tokens that are left
abbrev pub left : Progress → Tokens
left progress = tokens_from false progress.at (drop progress.at progress.source)

-- the token that bytes at an offset are
abbrev pub token_of : ℕ → List ℕ → Token
token_of at text =
    if bytes_eq text (codes "(") then Open at
    else (if bytes_eq text (codes ")") then Close at
    else Word at (str_to_ascii_lowercase text))

-- what is given, before the later tokens
abbrev pub with_next : Next → Tokens → Tokens
with_next (next.Token text offset) later = before (token_of offset text.now) later
with_next next.End later = record { tokens = []; foreign = None }
with_next (next.Bad offset) later = record { tokens = []; foreign = Some offset }

-- a blank, or the `;` of a comment
abbrev pub is_between : ℕ → Bool
is_between byte = is_blank byte || byte == 59

-- how many bytes of blanks and comments come first, where a comment is open there or is not
unfoldable pub gap_len : Bool → List ℕ → ℕ
gap_len is_comment [] = 0
gap_len is_comment (byte ∷ bytes) = if is_comment || is_between byte then 1 + gap_len (is_comment_after is_comment byte) bytes else 0

-- how many bytes the first token has: one for a parenthesis, else the run of bytes of words
abbrev pub token_len : List ℕ → ℕ
token_len [] = 0
token_len (byte ∷ bytes) = if byte == 40 || byte == 41 then 1 else prefix_len is_of_word (byte ∷ bytes)

-- a token is the slice of the text at its offset, behind blanks and comments alone
pub record IsSlice (source : List ℕ) (at : ℕ) (text : List ℕ) (offset end : ℕ) : Type 0 where
  pub behind_gap : offset ≡ at + gap_len false (drop at source)
  pub slice : text ≡ take (length text) (drop offset source)
  pub some : 0 < length text
  pub ends : end ≡ offset + length text

abbrev pub Takes : Progress → Next → Progress → Type 0
Takes old (next.Token text offset) new = IsSlice old.source old.at text.now offset new.at
Takes old next.End new = ⊤
Takes old (next.Bad offset) new = ⊤

-- at the end and at a foreign byte, what is left stays as it is
abbrev pub Rests : Progress → Next → Progress → Type 0
Rests old (next.Token text offset) new = ⊤
Rests old next.End new = left new ≡ left old
Rests old (next.Bad offset) new = left new ≡ left old
