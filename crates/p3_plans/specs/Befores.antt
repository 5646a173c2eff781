-- What the code keeps of what stands before a token.
use Rattle.std.specs.Prelude.{◌≡◌, ℕ, Option, Some, None, Result, Ok, Err}
use Rattle.p3_base.specs.declared.refusal.Code.{Code}
use Rattle.p3_base.specs.declared.refusal.Refusal.{Refusal}
use Rattle.p3_task.specs.Tokens.{Token}
use Rattle.p3_task.specs.PlanTexts as texts
use Rattle.p3_plans.specs.declared.before.Before.{Before}
use Rattle.p3_plans.specs.declared.before.Before.TheVariants.{Outside, Begun, Named}
use Rattle.p3_plans.specs.Steps.{begin_behind}

abbrev pub the_before : Before → texts.Before
the_before (Outside steps) = texts.Outside steps
the_before (Begun steps begin) = texts.Begun steps
the_before (Named steps begin) = texts.Named steps

abbrev pub begin_of : Before → ℕ
begin_of (Outside steps) = 0
begin_of (Begun steps begin) = begin
begin_of (Named steps begin) = begin

abbrev pub refusal_by : Token → Option Code → Option Refusal
refusal_by token None = None
refusal_by token (Some code) = Some (texts.refused_at code token)

-- the refusal of a token that may not stand there
abbrev pub refusal_of : texts.Before → Token → Option Refusal
refusal_of before token = refusal_by token (texts.offence_of before token)

-- the token is no offence, and this stands behind it
pub record Passes (before : Before) (token : Token) (later : Before) : Type 0 where
  pub free : texts.offence_of (the_before before) token ≡ None
  pub behind : texts.behind (the_before before) token ≡ the_before later
  pub begin : begin_behind (the_before before) (begin_of before) token ≡ begin_of later

abbrev pub Leads : Before → Token → Result Before Refusal → Type 0
Leads before token (Ok later) = Passes before token later
Leads before token (Err refusal) = refusal_of (the_before before) token ≡ Some refusal
