-- What a plan reader has come to, and what it gives.
use Rattle.std.specs.Prelude.{◌≡◌, ℕ, ◌+◌, ◌-◌, false, List, [], ◌∷◌, take, drop, length, Option, Some, None, ⊤}
use Rattle.p3_base.specs.declared.refusal.Code.{Code}
use Rattle.p3_base.specs.declared.refusal.Refusal.{Refusal}
use Rattle.p3_task.specs.Tokens.{Token, Open, Close, Word, Tokens, tokens_from}
use Rattle.p3_lexer.specs.Lexing.{gap_len}
use Rattle.p3_task.specs.PlanTexts.{Before, Outside, Begun, Named, behind, offence_of, offence_from}
use Rattle.p3_plans.specs.declared.reader.NextStep.{NextStep}
use Rattle.p3_plans.specs.declared.reader.NextStep.TheVariants as next

-- the text, the place up to which its steps were given, how many they are, and the refusal where it stopped
pub record Progress : Type 0 where
  pub source : List ℕ
  pub at : ℕ
  pub given : ℕ
  pub stopped : Option Refusal

-- the text of a step, from its `(` to its `)`, with its offset
pub record StepText : Type 0 where
  pub at : ℕ
  pub text : List ℕ

-- the steps that end before the first offence, and that offence where there is one
pub record Left : Type 0 where
  pub steps : List StepText
  pub offence : Option Refusal

abbrev pub place_of : Token → ℕ
place_of (Open at) = at
place_of (Close at) = at
place_of (Word at text) = at

-- where the step begins that is open behind a token; 0 where none is
abbrev pub begin_behind : Before → ℕ → Token → ℕ
begin_behind (Outside steps) begin token = place_of token
begin_behind (Begun steps) begin token = begin
begin_behind (Named steps) begin (Open at) = begin
begin_behind (Named steps) begin (Close at) = 0
begin_behind (Named steps) begin (Word at text) = begin

-- a `)` behind a name ends the step
abbrev pub with_ended : List ℕ → Before → ℕ → Token → List StepText → List StepText
with_ended source (Outside steps) begin token later = later
with_ended source (Begun steps) begin token later = later
with_ended source (Named steps) begin (Open at) later = later
with_ended source (Named steps) begin (Close at) later = record { at = begin; text = take ((at + 1) - begin) (drop begin source) } ∷ later
with_ended source (Named steps) begin (Word at text) later = later

abbrev pub unless_offence : Option Code → List StepText → List StepText
unless_offence None later = later
unless_offence (Some code) later = []

-- the steps that end at one of the tokens, before the first offence
unfoldable pub steps_from : List ℕ → Before → ℕ → List Token → List StepText
steps_from source before begin [] = []
steps_from source before begin (token ∷ tokens) =
    unless_offence (offence_of before token) (with_ended source before begin token (steps_from source (behind before token) (begin_behind before begin token) tokens))

-- what the tokens give that stand behind something
abbrev pub parts : List ℕ → Before → ℕ → Tokens → Left
parts source before begin later = record { steps = steps_from source before begin later.tokens; offence = offence_from (length source) before later.tokens later.foreign }

abbrev pub nothing : Option Refusal → Left
nothing offence = record { steps = []; offence = offence }

abbrev pub left_by : Progress → Option Refusal → Left
left_by progress None = parts progress.source (Outside progress.given) 0 (tokens_from false progress.at (drop progress.at progress.source))
left_by progress (Some refusal) = nothing (Some refusal)

-- what is left
abbrev pub left : Progress → Left
left progress = left_by progress progress.stopped

-- what is given, before what comes later
abbrev pub with_next : NextStep → Left → Left
with_next (next.Step step) later = record { steps = record { at = step.offset; text = step.text.now } ∷ later.steps; offence = later.offence }
with_next next.End later = nothing None
with_next (next.Bad refusal) later = nothing (Some refusal)

-- a step is the slice of the text at its offset
pub record IsSlice (source : List ℕ) (offset : ℕ) (text : List ℕ) (end : ℕ) : Type 0 where
  pub slice : text ≡ take (length text) (drop offset source)
  pub ends : end ≡ offset + length text

abbrev pub Takes : List ℕ → NextStep → ℕ → Type 0
Takes source (next.Step step) end = IsSlice source step.offset step.text.now end
Takes source next.End end = ⊤
Takes source (next.Bad refusal) end = ⊤

-- before a step stand blanks and comments alone
abbrev pub IsBehindGap : List ℕ → ℕ → NextStep → Type 0
IsBehindGap source at (next.Step step) = step.offset ≡ at + gap_len false (drop at source)
IsBehindGap source at next.End = ⊤
IsBehindGap source at (next.Bad refusal) = ⊤

-- behind the last step, what is left stays as it is
abbrev pub Rests : Progress → NextStep → Progress → Type 0
Rests old (next.Step step) new = ⊤
Rests old next.End new = left new ≡ left old
Rests old (next.Bad refusal) new = left new ≡ left old

-- after the end no token is left
abbrev pub Ends : NextStep → Tokens → Type 0
Ends (next.Step step) later = ⊤
Ends next.End later = later ≡ record { tokens = []; foreign = None }
Ends (next.Bad refusal) later = ⊤

abbrev pub stopped_by : NextStep → Option Refusal
stopped_by (next.Step step) = None
stopped_by next.End = None
stopped_by (next.Bad refusal) = Some refusal
