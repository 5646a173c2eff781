-- A plan that is followed line by line: its lines, the step that each has, and what is answered to it.
use Rattle.std.specs.Prelude.{◌≡◌, ℕ, ◌+◌, ◌≤◌, nat_lt, Bool, true, false, List, [], ◌∷◌, ◌++◌, filter_map, length, if◌then◌else◌, Option, Some, None}
use Rattle.std.specs.List.{list_any}
use Rattle.p3_base.specs.Place.{is_line_feed}
use Rattle.p3_base.specs.declared.refusal.Code.TheVariants.{Malformed, TooManySteps}
use Rattle.p3_base.specs.declared.refusal.Refusal.{Refusal}
use Rattle.p3_task.specs.Names.{Name}
use Rattle.p3_task.specs.Plans.{Plan, last_state, visited}
use Rattle.p3_task.specs.PlanTexts.{plan_offence, refusal, step_limit}
use Rattle.p3_task.specs.Tokens.{Token, Open, Close, Word, tokens_of}
use Rattle.p3_task.specs.Validity.{Misfit, misfit}
use Rattle.p3_task.specs.declared.task.Step.{Step}
use Rattle.p3_task.specs.declared.task.Task.{Task}

-- ---- lines

-- the bytes of a line without its line feed, and where they begin in the text
pub record Piece : Type 0 where
  pub at : ℕ
  pub bytes : List ℕ

-- one more byte in front of the first piece
abbrev pub with_byte : ℕ → ℕ → List Piece → List Piece
with_byte at byte [] = record { at = at; bytes = byte ∷ [] } ∷ []
with_byte at byte (piece ∷ pieces) = record { at = at; bytes = byte ∷ piece.bytes } ∷ pieces

abbrev pub piece_before : Bool → ℕ → ℕ → List Piece → List Piece
piece_before true at byte pieces = record { at = at; bytes = [] } ∷ pieces
piece_before false at byte pieces = with_byte at byte pieces

-- the pieces between line feeds from an offset on, an empty last one left out
unfoldable pub lines_from : ℕ → List ℕ → List Piece
lines_from at [] = []
lines_from at (byte ∷ bytes) = piece_before (is_line_feed byte) at byte (lines_from (at + 1) bytes)

abbrev pub lines_of : List ℕ → List Piece
lines_of text = lines_from 0 text

-- no line feed stands in it, and it has at most so many bytes
pub record IsLine (most : ℕ) (piece : Piece) : Type 0 where
  pub one : list_any is_line_feed piece.bytes ≡ false
  pub short : length piece.bytes ≤ most

-- ---- the step of a line

-- the first `(` behind the first `)`
abbrev pub open_behind : List Token → Option ℕ
open_behind [] = None
open_behind (Open at ∷ tokens) = Some at
open_behind (Close at ∷ tokens) = open_behind tokens
open_behind (Word at text ∷ tokens) = open_behind tokens

abbrev pub second_step : List Token → Option ℕ
second_step [] = None
second_step (Open at ∷ tokens) = second_step tokens
second_step (Close at ∷ tokens) = open_behind tokens
second_step (Word at text ∷ tokens) = second_step tokens

abbrev pub earlier_by : Option Refusal → Option ℕ → Option Refusal
earlier_by offence None = offence
earlier_by None (Some at) = Some (refusal Malformed at 1)
earlier_by (Some offence) (Some at) = if nat_lt at offence.pos.offset then Some (refusal Malformed at 1) else Some offence

-- the offence of least offset: one of a plan's text, or the `(` of a second step
unfoldable pub line_offence : List ℕ → Option Refusal
line_offence bytes = earlier_by (plan_offence bytes) (second_step (tokens_of bytes).tokens)

-- what a line has: an offence, nothing, or a step, with the offset of its `(`
pub data LineText : Type 0 where
  Offends : (offence : Refusal) → LineText
  Empty : LineText
  OneStep : (at : ℕ) → (step : Step) → LineText

abbrev pub word_of : Token → Option Name
word_of (Open at) = None
word_of (Close at) = None
word_of (Word at text) = Some text

-- the step that a `(`, its name and its arguments spell
abbrev pub step_in : List Token → LineText
step_in (Open at ∷ Word place name ∷ tokens) = OneStep at (record { action = name; args = filter_map word_of tokens })
step_in tokens = Empty

abbrev pub line_by : Option Refusal → List Token → LineText
line_by (Some offence) tokens = Offends offence
line_by None tokens = step_in tokens

unfoldable pub line_text : List ℕ → LineText
line_text bytes = line_by (line_offence bytes) (tokens_of bytes).tokens

-- ---- what is answered to a line

-- behind the steps taken so far: nothing, the step is taken, it does not fit, or the line is refused at an offset of its own
pub data Answer : Type 0 where
  Blank : Answer
  Taken : (step : Step) → Answer
  Unfit : (kind : Misfit) → Answer
  Refused : (offence : Refusal) → Answer

abbrev pub tried : Step → Option Misfit → Answer
tried step None = Taken step
tried step (Some kind) = Unfit kind

abbrev pub answer_by : Task → Plan → LineText → Answer
answer_by T plan (Offends offence) = Refused offence
answer_by T plan Empty = Blank
answer_by T plan (OneStep at step) = if nat_lt (length plan) step_limit then tried step (misfit T (last_state (visited T plan)) step) else Refused (refusal TooManySteps at 1)

unfoldable pub answer_to : Task → Plan → List ℕ → Answer
answer_to T plan bytes = answer_by T plan (line_text bytes)

-- the steps that are taken then
abbrev pub taken_after : Plan → Answer → Plan
taken_after plan Blank = plan
taken_after plan (Taken step) = plan ++ step ∷ []
taken_after plan (Unfit kind) = plan
taken_after plan (Refused offence) = plan
