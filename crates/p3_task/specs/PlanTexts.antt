-- Texts of plans (the plan files of the planning competitions): for each step `(`, its action, its arguments and `)`.
use Rattle.std.specs.Prelude.{◌≡◌, ℕ, ◌+◌, ◌==◌, nat_lt, Bool, false, not, ◌||◌, List, [], ◌∷◌, ◌++◌, map, flat_map, length, if◌then◌else◌, Option, Some, None, IsTrue}
use Rattle.std.specs.List.{list_all}
use Rattle.p3_base.specs.declared.refusal.Code.{Code}
use Rattle.p3_base.specs.declared.refusal.Code.TheVariants.{BadByte, Unbalanced, Malformed, TooManySteps}
use Rattle.p3_base.specs.declared.refusal.Refusal.{Refusal}
use Rattle.p3_base.specs.declared.refusal.Role.TheVariants.{Plan}
use Rattle.p3_task.specs.Names.{Name}
use Rattle.p3_task.specs.Plans as plans
use Rattle.p3_task.specs.Tokens.{Token, Open, Close, Word, tokens_of}
use Rattle.p3_task.specs.declared.task.Step.{Step}

-- ---- the text of a plan

-- a token without its offset
pub data Mark : Type 0 where
  Opens : Mark
  Closes : Mark
  Names : (word : Name) → Mark

abbrev pub mark_of : Token → Mark
mark_of (Open at) = Opens
mark_of (Close at) = Closes
mark_of (Word at text) = Names text

abbrev pub step_marks : Step → List Mark
step_marks step = Opens ∷ map Names (step.action ∷ step.args) ++ Closes ∷ []

-- no variable, and no keyword
abbrev pub is_plan_word : Name → Bool
is_plan_word [] = false
is_plan_word (byte ∷ bytes) = not (byte == 63 || byte == 58)

abbrev pub has_plan_words : Step → Bool
has_plan_words step = list_all is_plan_word (step.action ∷ step.args)

-- no plan that is read has more steps
abbrev pub step_limit : ℕ
step_limit = 1000000

-- no byte is foreign, and the tokens are those of the steps in order
pub record IsPlanText (text : List ℕ) (plan : plans.Plan) : Type 0 where
  pub known : (tokens_of text).foreign ≡ None
  pub marks : map mark_of (tokens_of text).tokens ≡ flat_map step_marks plan
  pub words : IsTrue (list_all has_plan_words plan)

-- ---- the offences

-- what stands before a token: no step is open; a step's `(` alone; or its name too. The steps begun so far are counted.
pub data Before : Type 0 where
  Outside : (steps : ℕ) → Before
  Begun : (steps : ℕ) → Before
  Named : (steps : ℕ) → Before

-- what stands before the next token, behind one that is no offence
abbrev pub behind : Before → Token → Before
behind (Outside steps) token = Begun (steps + 1)
behind (Begun steps) token = Named steps
behind (Named steps) (Open at) = Named steps
behind (Named steps) (Close at) = Outside steps
behind (Named steps) (Word at text) = Named steps

abbrev pub word_offence : Name → Option Code
word_offence word = if is_plan_word word then None else Some Malformed

-- whether a token may stand there
abbrev pub offence_of : Before → Token → Option Code
offence_of (Outside steps) (Open at) = if nat_lt steps step_limit then None else Some TooManySteps
offence_of (Outside steps) (Close at) = Some Unbalanced
offence_of (Outside steps) (Word at text) = Some Malformed
offence_of (Begun steps) (Open at) = Some Malformed
offence_of (Begun steps) (Close at) = Some Malformed
offence_of (Begun steps) (Word at text) = word_offence text
offence_of (Named steps) (Open at) = Some Malformed
offence_of (Named steps) (Close at) = None
offence_of (Named steps) (Word at text) = word_offence text

abbrev pub refusal : Code → ℕ → ℕ → Refusal
refusal code at len = record { code = code; pos = record { role = Plan; offset = at }; len = len }

abbrev pub refused_at : Code → Token → Refusal
refused_at code (Open at) = refusal code at 1
refused_at code (Close at) = refusal code at 1
refused_at code (Word at text) = refusal code at (length text)

-- the end of a text of so many bytes, inside a step or not
abbrev pub end_offence : ℕ → Before → Option Refusal
end_offence size (Outside steps) = None
end_offence size (Begun steps) = Some (refusal Unbalanced size 0)
end_offence size (Named steps) = Some (refusal Unbalanced size 0)

abbrev pub foreign_offence : ℕ → Before → Option ℕ → Option Refusal
foreign_offence size before (Some at) = Some (refusal BadByte at 1)
foreign_offence size before None = end_offence size before

abbrev pub first_of_both : Option Code → Token → Option Refusal → Option Refusal
first_of_both None token later = later
first_of_both (Some code) token later = Some (refused_at code token)

-- the first offence of the tokens that stand behind something, and of what ends them
unfoldable pub offence_from : ℕ → Before → List Token → Option ℕ → Option Refusal
offence_from size before [] foreign = foreign_offence size before foreign
offence_from size before (token ∷ tokens) foreign = first_of_both (offence_of before token) token (offence_from size (behind before token) tokens foreign)

-- the offence of least offset
abbrev pub plan_offence : List ℕ → Option Refusal
plan_offence text = offence_from (length text) (Outside 0) (tokens_of text).tokens (tokens_of text).foreign
