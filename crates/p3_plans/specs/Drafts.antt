-- Plans that are read in part.
use Rattle.std.specs.Prelude.{◌≡◌, ℕ, ◌+◌, [], ◌∷◌, ◌++◌, length, codes, Some, None, Result, Ok, Err, ⊤}
use Rattle.p3_base.specs.declared.refusal.Refusal.{Refusal}
use Rattle.p3_task.specs.declared.task.Step.{Step}
use Rattle.p3_task.specs.Names.{Name}
use Rattle.p3_task.specs.Plans.{Plan}
use Rattle.p3_task.specs.Tokens.{Token, Open, Close, Word}
use Rattle.p3_task.specs.PlanTexts as texts
use Rattle.p3_task.specs.PlanTexts.{Mark, Opens, Names, step_marks, has_plan_words, step_limit, offence_of, end_offence}
use Rattle.p3_plans.specs.Befores.{refusal_of}
use Rattle.p3_plans.specs.declared.draft.Draft.{Draft}
use Rattle.p3_plans.specs.declared.draft.Draft.TheVariants.{Outside, Begun, Named}
use Rattle.p3_plans.specs.declared.error.PlanFail.{PlanFail}
use Rattle.p3_plans.specs.declared.error.PlanFail.TheVariants.{Refused, NoMemory}

-- the steps that are whole
abbrev pub plan_of : Draft → Plan
plan_of (Outside plan) = plan
plan_of (Begun plan) = plan
plan_of (Named plan step) = plan

-- what stands before the next token
abbrev pub draft_before : Draft → texts.Before
draft_before (Outside plan) = texts.Outside (length plan)
draft_before (Begun plan) = texts.Begun (length plan + 1)
draft_before (Named plan step) = texts.Named (length plan + 1)

abbrev pub bytes_of : Token → Name
bytes_of (Open at) = codes "("
bytes_of (Close at) = codes ")"
bytes_of (Word at text) = text

abbrev pub with_argument : Step → Name → Step
with_argument step argument = record { action = step.action; args = step.args ++ argument ∷ [] }

-- one more token is read
abbrev pub added : Draft → Token → Draft
added (Outside plan) token = Begun plan
added (Begun plan) token = Named plan (record { action = bytes_of token; args = [] })
added (Named plan step) (Open at) = Named plan (with_argument step (codes "("))
added (Named plan step) (Close at) = Outside (plan ++ step ∷ [])
added (Named plan step) (Word at text) = Named plan (with_argument step text)

abbrev pub IfRefused : PlanFail → (Refusal → Type 0) → Type 0
IfRefused (Refused refusal) P = P refusal
IfRefused NoMemory P = ⊤

-- the token may stand there and is read
pub record IsAdded (draft : Draft) (token : Token) (later : Draft) : Type 0 where
  pub free : offence_of (draft_before draft) token ≡ None
  pub reads : later ≡ added draft token

abbrev pub Adds : Draft → Token → Result Draft PlanFail → Type 0
Adds draft token (Ok later) = IsAdded draft token later
Adds draft token (Err fail) = IfRefused fail (λ refusal. refusal_of (draft_before draft) token ≡ Some refusal)

abbrev pub Ends : ℕ → Draft → Result Plan PlanFail → Type 0
Ends size draft (Ok plan) = draft ≡ Outside plan
Ends size draft (Err fail) = IfRefused fail (λ refusal. end_offence size (draft_before draft) ≡ Some refusal)
