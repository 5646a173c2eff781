-- The lines of a text, one after another, and where they stand.
use Rattle.std.specs.Prelude.{◌≡◌, ℕ, ◌+◌, ◌<◌, ◌≤◌, List, drop, length}
use Rattle.std.specs.List.{before_first, position_or_len}
use Rattle.p3_base.specs.Place.{is_line_feed, line_of, column_of}
use Rattle.p3_base.specs.declared.refusal.Refusal.{Refusal}
use Rattle.p3_watch.specs.declared.lines.LineStart.{LineStart}
use Rattle.p3_watch.specs.declared.watch.Line.{Line}
use Rattle.p3_watch.specs.declared.watch.Line.TheVariants as line

-- how many bytes stand before the first line feed
abbrev pub line_len : List ℕ → ℕ
line_len bytes = position_or_len is_line_feed bytes

-- the line that begins at an offset
abbrev pub line_at : List ℕ → ℕ → List ℕ
line_at text offset = before_first is_line_feed (drop offset text)

-- a line begins there, and has this number
pub record Begins (text : List ℕ) (start : LineStart) : Type 0 where
  pub row : start.row ≡ line_of text start.offset
  pub column : column_of text start.offset ≡ 1

-- the text ends there, or a line begins
pub record IsStart (text : List ℕ) (start : LineStart) : Type 0 where
  pub within : start.offset ≤ length text
  pub begins : start.offset < length text → Begins text start

-- a refusal that counts from the start of the line stands in that line
pub record IsInLine (text : List ℕ) (start : LineStart) (refusal : Refusal) : Type 0 where
  pub within : start.offset + refusal.pos.offset ≤ length text
  pub row : start.row ≡ line_of text (start.offset + refusal.pos.offset)
  pub column : refusal.pos.offset + 1 ≡ column_of text (start.offset + refusal.pos.offset)

-- so it is of what a line comes to
abbrev pub IsToldThere : List ℕ → LineStart → Line → Type 0
IsToldThere text start (line.Refused refusal) = IsInLine text start refusal
IsToldThere text start _ = Unit {0}
