-- Why a step does not fit, by number.
use Rattle.std.specs.Prelude.{◌≡◌, ℕ, List, [], ◌∷◌, find, slice_get, take, Option, Some}
use Rattle.p3_task.specs.Names.{Name, same_name}
use Rattle.p3_task.specs.declared.task.Action.{Action}
use Rattle.p3_numbers.specs.declared.task.NumberedAction.{NumberedAction}
use Rattle.p3_numbers.specs.declared.task.NumberedTask.{NumberedTask}
use Rattle.p3_reasons.specs.Visits.{test_after}
use Rattle.p3_reasons.specs.declared.decision.Decision.{Decision}
use Rattle.p3_reasons.specs.declared.decision.Literal.{Literal}
use Rattle.p3_reasons.specs.declared.visited.PlacedStep.{PlacedStep}
use Rattle.p3_scenes.specs.Questions.{hard_decided}
use Rattle.p3_accounts.specs.States.{shown_in}
use Rattle.p3_accounts.specs.declared.state.Shown.TheVariants.{States}
use Rattle.p3_accounts.specs.declared.subject.StepFault.{StepFault}
use Rattle.p3_accounts.specs.declared.subject.StepFault.TheVariants as fault
use Rattle.p3_inapplicable.specs.Values.{first_missing}
use Rattle.p3_inapplicable.specs.declared.reason.Reason.{Reason}

-- the first action of that name
abbrev pub action_in : List Action → Name → Option Action
action_in actions name = find (λ action. same_name action.name.name name) actions

-- the literals that decide a precondition in the state behind so many steps
abbrev pub deciding : NumberedTask → List PlacedStep → ℕ → PlacedStep → NumberedAction → List Literal
deciding X steps state placed action = (hard_decided X (test_after X (take state steps)) placed.objects action.pre).literals

-- where there is one decision alone, these are its literals
abbrev pub AreOfTheOne : List Decision → List Literal → Type 0
AreOfTheOne decisions literals = (decision : Decision) → decisions ≡ decision ∷ [] → literals ≡ decision.literals

-- the step at a place is that of an action
pub record IsDone (X : NumberedTask) (steps : List PlacedStep) (place : ℕ) (placed : PlacedStep) (action : NumberedAction) : Type 0 where
  pub at : slice_get steps place ≡ Some placed
  pub own : slice_get X.actions placed.action ≡ Some action

pub record ShowsLiterals (X : NumberedTask) (steps : List PlacedStep) (state : ℕ) (placed : PlacedStep) (action : NumberedAction) (reason : Reason) : Type 0 where
  pub fault : reason.fault ≡ fault.Precondition
  pub shown : reason.shown ≡ States (shown_in state (deciding X steps state placed action) ∷ [])

-- the fault alone, which no state shows
pub record IsPlain (own : StepFault) (reason : Reason) : Type 0 where
  pub fault : reason.fault ≡ own
  pub shown : reason.shown ≡ States []

-- where a step stands at the place, the literals that decide its precondition there
abbrev pub ShowsStep : NumberedTask → List PlacedStep → ℕ → Reason → Type 0
ShowsStep X steps place reason = (placed : PlacedStep) (action : NumberedAction) → IsDone X steps place placed action → ShowsLiterals X steps place placed action reason

-- where a step stands at the place, the first value that its cost reads and that is not given, if there is one
abbrev pub NamesValue : ℕ → NumberedTask → List PlacedStep → ℕ → Reason → Type 0
NamesValue places X steps place reason =
    (placed : PlacedStep) (action : NumberedAction) (value : List ℕ) → IsDone X steps place placed action → first_missing places X.values placed.objects action.effect ≡ Some value → IsPlain (fault.NoValue value) reason
