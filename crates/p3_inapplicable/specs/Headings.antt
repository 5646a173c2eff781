-- The heading of the step that is the first fault of a plan.
use Rattle.std.specs.Prelude.{◌≡◌, ℕ, ◌-◌, ◌≤◌, false, List, [], ◌∷◌, length, take, slice_get, Some, None, ⊤}
use Rattle.std.specs.List.{AllZip}
use Rattle.p3_task.specs.Costs.{increases}
use Rattle.p3_task.specs.PlanTexts.{IsPlanText, step_limit}
use Rattle.p3_task.specs.Plans.{Plan, action_named, arguments, state_at, visited}
use Rattle.p3_task.specs.Validity as validity
use Rattle.p3_task.specs.Validity.{AtStep, first_fault}
use Rattle.p3_task.specs.declared.task.Action.{Action}
use Rattle.p3_task.specs.declared.task.Step.{Step}
use Rattle.p3_task.specs.declared.task.Task.{Task}
use Rattle.p3_numbers.specs.declared.task.NumberedTask.{NumberedTask}
use Rattle.p3_reasons.specs.Decisions.{IsDecision, hard_matter}
use Rattle.p3_reasons.specs.Visits.{IsPlaced}
use Rattle.p3_reasons.specs.declared.decision.Literal.{Literal}
use Rattle.p3_reasons.specs.declared.visited.PlacedStep.{PlacedStep}
use Rattle.p3_accounts.specs.Spots.{spot_in}
use Rattle.p3_accounts.specs.States.{shown_in}
use Rattle.p3_accounts.specs.declared.heading.Heading.{Heading}
use Rattle.p3_accounts.specs.declared.state.Shown.TheVariants.{States}
use Rattle.p3_accounts.specs.declared.subject.StepFault.{StepFault}
use Rattle.p3_accounts.specs.declared.subject.StepFault.TheVariants as fault
use Rattle.p3_accounts.specs.declared.subject.Subject.TheVariants as subject
use Rattle.p3_accounts.specs.declared.terms.InputFile.TheVariants as file
use Rattle.p3_inapplicable.specs.Arguments.{argument_fault}
use Rattle.p3_inapplicable.specs.Places.{BeginsAt}
use Rattle.p3_inapplicable.specs.Values.{missing_value, value_fact}
use Rattle.p3_inapplicable.specs.declared.reason.Reason.{Reason}

-- ---- why a step does not fit

-- no action has its name
pub record IsUnknown (T : Task) (step : Step) (reason : Reason) : Type 0 where
  pub named : action_named T step.action ≡ None
  pub fault : reason.fault ≡ fault.UnknownAction
  pub shown : reason.shown ≡ States []

-- the first of its arguments that is none of its action's, or else their number
pub record HasFaultyArguments (T : Task) (step : Step) (reason : Reason) : Type 0 where
  pub action : Action
  pub named : action_named T step.action ≡ Some action
  pub fault : argument_fault T action.params step.args ≡ Some reason.fault
  pub shown : reason.shown ≡ States []

-- the literals decide in the state before the step of the number that the precondition is false there
pub record FailsBy (T : Task) (X : NumberedTask) (plan : Plan) (number : ℕ) (step : Step) (reason : Reason) : Type 0 where
  pub action : Action
  pub named : action_named T step.action ≡ Some action
  pub fault : reason.fault ≡ fault.Precondition
  pub literals : List Literal
  pub shown : reason.shown ≡ States (shown_in (number - 1) literals ∷ [])
  pub decide : IsDecision X.numbers (hard_matter T (arguments action step) action.pre.body) (state_at (visited T plan) (number - 1)) (record { holds = false; literals = literals })

-- the first value that its cost reads and that is not given
pub record LacksValue (T : Task) (X : NumberedTask) (step : Step) (reason : Reason) : Type 0 where
  pub action : Action
  pub named : action_named T step.action ≡ Some action
  pub value : List ℕ
  pub fault : reason.fault ≡ fault.NoValue value
  pub missing : missing_value T (arguments action step) (increases action.effect.body) ≡ Some (value_fact X.numbers value)
  pub shown : reason.shown ≡ States []

-- the reason is of that kind
abbrev pub IsReason : Task → NumberedTask → Plan → ℕ → Step → validity.Misfit → Reason → Type 0
IsReason T X plan number step validity.UnknownAction reason = IsUnknown T step reason
IsReason T X plan number step validity.Arguments reason = HasFaultyArguments T step reason
IsReason T X plan number step validity.Precondition reason = FailsBy T X plan number step reason
IsReason T X plan number step validity.NoCost reason = LacksValue T X step reason

-- ---- the heading

-- of the step of the number, with its words and its place in the plan's text, and the reason of that kind
pub record IsStepHeading (T : Task) (X : NumberedTask) (text : List ℕ) (plan : Plan) (number : ℕ) (kind : validity.Misfit) (heading : Heading) : Type 0 where
  pub step : Step
  pub at : slice_get plan (number - 1) ≡ Some step
  pub offset : ℕ
  pub begins : BeginsAt text plan (number - 1) offset
  pub spot : heading.spot ≡ Some (spot_in file.Plan text offset)
  pub fault : StepFault
  pub subject : heading.subject ≡ subject.Step number step fault
  pub why : IsReason T X plan number step kind (record { fault = fault; shown = heading.shown })

-- ---- what is known of the plan

-- a step that has arguments of its action is among those by number
abbrev pub IsAmong : validity.Misfit → ℕ → List PlacedStep → Type 0
IsAmong validity.UnknownAction number steps = ⊤
IsAmong validity.Arguments number steps = ⊤
IsAmong validity.Precondition number steps = number ≤ length steps
IsAmong validity.NoCost number steps = number ≤ length steps

-- the first steps of the plan are these by number, and its first fault is the step of that number, which is wrong in that way
pub record IsMisfitIn (T : Task) (X : NumberedTask) (plan : Plan) (steps : List PlacedStep) (number : ℕ) (kind : validity.Misfit) : Type 0 where
  pub placed : AllZip (IsPlaced T X) (take (length steps) plan) steps
  pub among : IsAmong kind number steps
  pub first : first_fault T plan ≡ Some (AtStep number kind)

-- the reason is why the step of the number is wrong in that way, in each plan with that step of which this is known
abbrev pub IsReasonIn : Task → NumberedTask → List PlacedStep → ℕ → Step → validity.Misfit → Reason → Type 0
IsReasonIn T X steps number step kind reason = (plan : Plan) → slice_get plan (number - 1) ≡ Some step → IsMisfitIn T X plan steps number kind → IsReason T X plan number step kind reason

-- and the text is the plan's
pub record IsMisfitOf (T : Task) (X : NumberedTask) (text : List ℕ) (plan : Plan) (steps : List PlacedStep) (number : ℕ) (kind : validity.Misfit) : Type 0 where
  pub spelled : IsPlanText text plan
  pub few : length plan ≤ step_limit
  pub misfit : IsMisfitIn T X plan steps number kind
