-- What the tokens of a plan text give, by the first of them.
use Rattle.std.proofs.Common.{arith, ◌≡◌, ℕ, ◌+◌, ◌-◌, List, [], ◌∷◌, length, take, drop, Option, Some, None, refl, sym, ap, ◌∙◌, ◌≢◌}
use Rattle.p3_base.specs.declared.refusal.Code.{Code}
use Rattle.p3_base.specs.declared.refusal.Code.TheVariants.{BadByte}
use Rattle.p3_base.specs.declared.refusal.Refusal.{Refusal}
use Rattle.std.specs.Prelude.{codes, if◌then◌else◌, Bool, true, false, bytes_eq, ◌≤◌}
use Rattle.std.specs.Str.{str_to_ascii_lowercase}
use Rattle.p3_lexer.specs.Lexing.{token_of, gap_len}
use Rattle.p3_task.specs.Tokens.{Token, Open, Close, Word, Tokens, before}
use Rattle.p3_task.specs.PlanTexts as texts
use Rattle.p3_task.specs.PlanTexts.{offence_of, offence_from, first_of_both}
use Rattle.p3_plans.specs.declared.before.Before.{Before}
use Rattle.p3_plans.specs.declared.before.Before.TheVariants.{Outside, Begun, Named}
use Rattle.p3_plans.specs.Steps.{Progress, StepText, Left, begin_behind, place_of, with_ended, unless_offence, steps_from, parts, nothing, left, left_by, with_next, stopped_by, Ends, Rests}
use Rattle.p3_plans.specs.declared.reader.NextStep.{NextStep}
use Rattle.p3_plans.specs.declared.reader.NextStep.TheVariants as next
use Rattle.p3_task.specs.Tokens.{tokens_from}
use Rattle.p3_plans.specs.Befores.{the_before, begin_of, refusal_by, refusal_of, Passes}

-- ---- the end

pub parts_end : (source : List ℕ) (before : texts.Before) (begin : ℕ) → parts source before begin (record { tokens = []; foreign = None }) ≡ nothing (texts.end_offence (length source) before)
unfolding steps_from offence_from
parts_end source before begin = refl

pub parts_foreign : (source : List ℕ) (before : texts.Before) (begin at : ℕ) → parts source before begin (record { tokens = []; foreign = Some at }) ≡ nothing (Some (texts.refusal BadByte at 1))
unfolding steps_from offence_from
parts_foreign source before begin at = refl

-- ---- an offence

module _ (source : List ℕ) (B : texts.Before) (begin : ℕ) (token : Token) (later : Tokens) where
  abbrev given : Option Code → Left
  given offence = record {
    steps = unless_offence offence (with_ended source B begin token (steps_from source (texts.behind B token) (begin_behind B begin token) later.tokens));
    offence = first_of_both offence token (offence_from (length source) (texts.behind B token) later.tokens later.foreign);
  }

  parts_first : parts source B begin (before token later) ≡ given (offence_of B token)
  unfolding steps_from offence_from
  parts_first = refl

  refused_by : (offence : Option Code) (refusal : Refusal) → refusal_by token offence ≡ Some refusal → given offence ≡ nothing (Some refusal)
  refused_by None refusal is = absurd cc
  refused_by (Some code) refusal is = ap nothing is

  pub parts_refused : (refusal : Refusal) → refusal_of B token ≡ Some refusal → parts source B begin (before token later) ≡ nothing (Some refusal)
  parts_refused refusal is = parts_first ∙ refused_by (offence_of B token) refusal is

  parts_free : offence_of B token ≡ None
      → parts source B begin (before token later) ≡ record { steps = with_ended source B begin token (steps_from source (texts.behind B token) (begin_behind B begin token) later.tokens); offence = offence_from (length source) (texts.behind B token) later.tokens later.foreign }
  parts_free free = parts_first ∙ ap given free

-- ---- a token that may stand there

abbrev pub step_between : List ℕ → ℕ → ℕ → StepText
step_between source begin close = record { at = begin; text = take ((close + 1) - begin) (drop begin source) }

abbrev pub after_step : StepText → Left → Left
after_step step later = record { steps = step ∷ later.steps; offence = later.offence }

-- no step ends before one that is open
inside_after : (source : List ℕ) (B : texts.Before) (begin : ℕ) (token : Token) (later : List StepText) (next : texts.Before)
    → texts.behind B token ≡ next → ((steps : ℕ) → next ≢ texts.Outside steps) → with_ended source B begin token later ≡ later
inside_after source (texts.Outside steps) begin token later next is inside = refl
inside_after source (texts.Begun steps) begin token later next is inside = refl
inside_after source (texts.Named steps) begin (Open at) later next is inside = refl
inside_after source (texts.Named steps) begin (Close at) later next is inside = absurd (inside steps (sym is))
inside_after source (texts.Named steps) begin (Word at text) later next is inside = refl

inside_of : (later : Before) → ((steps : ℕ) → later ≢ Outside steps) → (steps : ℕ) → the_before later ≢ texts.Outside steps
inside_of (Outside n) inside steps is = inside n refl
inside_of (Begun n begin) inside steps is = cc
inside_of (Named n begin) inside steps is = cc

module _ (source : List ℕ) (now next : Before) (token : Token) (later : Tokens) (passes : Passes now token next) where
  abbrev behind_by : texts.Before → ℕ → Left
  behind_by B begin = record { steps = with_ended source (the_before now) (begin_of now) token (steps_from source B begin later.tokens); offence = offence_from (length source) B later.tokens later.foreign }

  behind_is : parts source (the_before now) (begin_of now) (before token later) ≡ behind_by (the_before next) (begin_of next)
  behind_is = parts_free source (the_before now) (begin_of now) token later passes.free ∙ (λ i. behind_by (passes.behind i) (passes.begin i))

  -- a step stays open
  pub parts_more : ((steps : ℕ) → next ≢ Outside steps)
      → parts source (the_before now) (begin_of now) (before token later) ≡ parts source (the_before next) (begin_of next) later
  parts_more inside =
      behind_is ∙ ap (λ (steps : List StepText). record { steps = steps; offence = offence_from (length source) (the_before next) later.tokens later.foreign })
      (inside_after source (the_before now) (begin_of now) token (steps_from source (the_before next) (begin_of next) later.tokens) (the_before next) passes.behind (inside_of next inside))

-- a step ends
ends_by : (source : List ℕ) (B : texts.Before) (begin : ℕ) (token : Token) (later : List StepText) (steps : ℕ)
    → texts.behind B token ≡ texts.Outside steps → with_ended source B begin token later ≡ step_between source begin (place_of token) ∷ later
ends_by source (texts.Outside n) begin token later steps is = absurd cc
ends_by source (texts.Begun n) begin token later steps is = absurd cc
ends_by source (texts.Named n) begin (Open at) later steps is = absurd cc
ends_by source (texts.Named n) begin (Close at) later steps is = refl
ends_by source (texts.Named n) begin (Word at text) later steps is = absurd cc

pub parts_step : (source : List ℕ) (now : Before) (steps : ℕ) (token : Token) (later : Tokens) → Passes now token (Outside steps)
    → parts source (the_before now) (begin_of now) (before token later) ≡ after_step (step_between source (begin_of now) (place_of token)) (parts source (texts.Outside steps) 0 later)
parts_step source now steps token later passes =
    behind_is source now (Outside steps) token later passes
    ∙ ap (λ (all : List StepText). record { steps = all; offence = offence_from (length source) (texts.Outside steps) later.tokens later.foreign })
    (ends_by source (the_before now) (begin_of now) token (steps_from source (texts.Outside steps) 0 later.tokens) steps passes.behind)

-- ---- where a step begins

place_by : (opens closes : Bool) (at : ℕ) (text : List ℕ) → place_of (if opens then Open at else (if closes then Close at else Word at text)) ≡ at
place_by true closes at text = refl
place_by false true at text = refl
place_by false false at text = refl

pub place_is : (at : ℕ) (text : List ℕ) → place_of (token_of at text) ≡ at
place_is at text = place_by (bytes_eq text (codes "(")) (bytes_eq text (codes ")")) at (str_to_ascii_lowercase text)

begins_by : (B : texts.Before) (begin : ℕ) (token : Token) (end : ℕ) → begin ≤ end → place_of token ≤ end → begin_behind B begin token ≤ end
begins_by (texts.Outside steps) begin token end old new = new
begins_by (texts.Begun steps) begin token end old new = old
begins_by (texts.Named steps) begin (Open at) end old new = old
begins_by (texts.Named steps) begin (Close at) end old new = omega arith
begins_by (texts.Named steps) begin (Word at text) end old new = old

pub begins : (now next : Before) (at : ℕ) (text : List ℕ) (end : ℕ) → Passes now (token_of at text) next → begin_of now ≤ end → at ≤ end → begin_of next ≤ end
begins now next at text end passes old new =
    let place : place_of (token_of at text) ≡ at = place_is at text in
    let behind : begin_behind (the_before now) (begin_of now) (token_of at text) ≤ end = begins_by (the_before now) (begin_of now) (token_of at text) end old (omega (arith, place, new)) in
    omega (arith, behind, passes.begin)

-- the open step begins behind blanks and comments from a place on; where none is open, nothing is read from there on
abbrev pub IsBegunAt : List ℕ → ℕ → ℕ → Before → Type 0
IsBegunAt source at here (Outside steps) = here ≡ at
IsBegunAt source at here (Begun steps begin) = begin ≡ at + gap_len false (drop at source)
IsBegunAt source at here (Named steps begin) = begin ≡ at + gap_len false (drop at source)

named_more : (n begin : ℕ) (token : Token) (later : Before) → Passes (Named n begin) token later → ((steps : ℕ) → later ≢ Outside steps) → begin ≡ begin_of later
named_more n begin (Open at) later passes inside = passes.begin
named_more n begin (Word at text) later passes inside = passes.begin
named_more n begin (Close at) (Outside m) passes inside = absurd (inside m refl)
named_more n begin (Close at) (Begun m b) passes inside = absurd (let bad = passes.behind in cc)
named_more n begin (Close at) (Named m b) passes inside = absurd (let bad = passes.behind in cc)

module _ (source : List ℕ) (at here end place : ℕ) (text : List ℕ) where
  pub begun_more : (now later : Before) → Passes now (token_of place text) later → ((steps : ℕ) → later ≢ Outside steps) → place ≡ here + gap_len false (drop here source)
      → IsBegunAt source at here now → IsBegunAt source at end later
  begun_more now (Outside m) passes inside gap begun = absurd (inside m refl)
  begun_more (Outside n) (Begun m b) passes inside gap begun = sym passes.begin ∙ place_is place text ∙ gap ∙ (λ i. begun i + gap_len false (drop (begun i) source))
  begun_more (Outside n) (Named m b) passes inside gap begun = sym passes.begin ∙ place_is place text ∙ gap ∙ (λ i. begun i + gap_len false (drop (begun i) source))
  begun_more (Begun n b0) (Begun m b) passes inside gap begun = sym passes.begin ∙ begun
  begun_more (Begun n b0) (Named m b) passes inside gap begun = sym passes.begin ∙ begun
  begun_more (Named n b0) (Begun m b) passes inside gap begun = sym (named_more n b0 (token_of place text) (Begun m b) passes inside) ∙ begun
  begun_more (Named n b0) (Named m b) passes inside gap begun = sym (named_more n b0 (token_of place text) (Named m b) passes inside) ∙ begun

pub begun_done : (source : List ℕ) (at here steps : ℕ) (token : Token) (now : Before) → Passes now token (Outside steps) → IsBegunAt source at here now → begin_of now ≡ at + gap_len false (drop at source)
begun_done source at here steps token (Outside n) passes begun = absurd (let bad = passes.behind in cc)
begun_done source at here steps token (Begun n b) passes begun = absurd (let bad = passes.behind in cc)
begun_done source at here steps token (Named n b) passes begun = begun

-- ---- behind the last step

pub rests : (old new : Progress) (next : NextStep) → left old ≡ with_next next (left new) → new.stopped ≡ stopped_by next → Ends next (tokens_from false new.at (drop new.at new.source)) → Rests old next new
rests old new (next.Step step) given stopped ends = tt
rests old new next.End given stopped ends =
    ap (left_by new) stopped ∙ ap (parts new.source (texts.Outside new.given) 0) ends ∙ parts_end new.source (texts.Outside new.given) 0 ∙ sym given
rests old new (next.Bad refusal) given stopped ends = ap (left_by new) stopped ∙ sym given
