-- What a plan does not satisfy, heading by heading: the goal where it does not hold, and each reason that tells of something unsatisfied, with the states that show it and literals that decide it there.
use Rattle.std.specs.Prelude.{◌≡◌, ℕ, ◌-◌, Bool, true, false, List, [], ◌∷◌, ◌++◌, filter, length, option_map, slice_get, unwrap_or, Option, Some, None}
use Rattle.std.specs.List.{AllZip}
use Rattle.p3_base.specs.declared.refusal.Role.{Role}
use Rattle.p3_base.specs.declared.refusal.Role.TheVariants.{Domain}
use Rattle.p3_base.specs.declared.showing.Reason.{Reason}
use Rattle.p3_base.specs.declared.showing.Showing.{Showing}
use Rattle.p3_base.specs.declared.showing.Showing.TheVariants.{Holds, HoldsAt, HoldsNowhere}
use Rattle.p3_base.specs.declared.showing.Subject.{Subject}
use Rattle.p3_base.specs.declared.showing.Subject.TheVariants.{Hard, Soft, Pre}
use Rattle.p3_task.specs.Constraints.{HardModal, Instance, hard_list, instances, operators}
use Rattle.p3_task.specs.Explanations.{reasons}
use Rattle.p3_task.specs.Goals.{StatePref}
use Rattle.p3_task.specs.Metrics.{step_prefs}
use Rattle.p3_task.specs.Names.{Name}
use Rattle.p3_task.specs.Plans.{Plan, state_at, visited}
use Rattle.p3_task.specs.States.{State}
use Rattle.p3_task.specs.Validity.{goal_holds}
use Rattle.p3_task.specs.declared.task.Step.{Step}
use Rattle.p3_task.specs.declared.task.Task.{Task}
use Rattle.p3_numbers.specs.Slots.{name_at}
use Rattle.p3_numbers.specs.declared.numbers.Numbers.{Numbers}
use Rattle.p3_reasons.specs.Decisions.{IsDecision, Matter, formula_matter, hard_matter}
use Rattle.p3_reasons.specs.Evidences.{evidence_of, operand_of}
use Rattle.p3_reasons.specs.declared.decision.Literal.{Literal}
use Rattle.p3_reasons.specs.declared.evidence.Evidence.{Evidence}
use Rattle.p3_scenes.specs.Bound.{hard_roles, instance_roles}
use Rattle.p3_scenes.specs.FirstWords.{first_word_of}
use Rattle.p3_accounts.specs.Operators.{kind_of}
use Rattle.p3_accounts.specs.States.{shown_by, shown_in}
use Rattle.p3_accounts.specs.declared.heading.Heading.{Heading}
use Rattle.p3_accounts.specs.declared.operator.OperatorKind.{OperatorKind}
use Rattle.p3_accounts.specs.declared.spot.Spot.{Spot}
use Rattle.p3_accounts.specs.declared.state.Shown.{Shown}
use Rattle.p3_accounts.specs.declared.state.Shown.TheVariants.{Nowhere, States}
use Rattle.p3_accounts.specs.declared.state.ShownState.{ShownState}
use Rattle.p3_accounts.specs.declared.subject.Binding.{Binding}
use Rattle.p3_accounts.specs.declared.subject.Subject.TheVariants as subject
use Rattle.p3_accounts.specs.declared.subject.Subject as heading
use Rattle.p3_unmet.specs.Bindings.{bound_by}
use Rattle.p3_unmet.specs.Sources.{Texts, spot_of}

-- ---- which reasons

-- what is shown is that something is not satisfied
abbrev pub shows_unmet : Showing → Bool
shows_unmet Holds = false
shows_unmet (HoldsAt state) = false
shows_unmet _ = true

abbrev pub is_unmet : Reason → Bool
is_unmet reason = shows_unmet reason.showing

-- ---- where it shows

-- the literals decide in the state that it holds, or that it does not
abbrev pub AreDeciding : Numbers → Matter → State → Bool → List Literal → Type 0
AreDeciding N matter s holds literals = IsDecision N matter s (record { holds = holds; literals = literals })

-- one state, in which it does not hold
pub record ShowsFailing (N : Numbers) (matter : Matter) (W : List State) (state : ℕ) (shown : Shown) : Type 0 where
  pub literals : List Literal
  pub is : shown ≡ States (shown_in state literals ∷ [])
  pub decide : AreDeciding N matter (state_at W state) false literals

-- a formula of an operator in a state
pub record ShowsOperand (T : Task) (N : Numbers) (W : List State) (hard : HardModal) (evidence : Evidence) (shown : ShownState) : Type 0 where
  pub is : shown ≡ shown_by (kind_of hard.modal) evidence shown.literals
  pub decide : AreDeciding N (formula_matter T hard.env (operand_of hard.modal evidence.operand)) (state_at W evidence.state) evidence.holds shown.literals

-- the states of what is evident
pub record ShowsStates (T : Task) (N : Numbers) (W : List State) (hard : HardModal) (showing : Showing) (shown : Shown) : Type 0 where
  pub states : List ShownState
  pub is : shown ≡ States states
  pub each : AllZip (ShowsOperand T N W hard) (evidence_of hard.modal showing) states

-- of what holds nowhere no state
abbrev pub ShowsOperator : Task → Numbers → List State → HardModal → Showing → Shown → Type 0
ShowsOperator T N W hard HoldsNowhere shown = shown ≡ Nowhere
ShowsOperator T N W hard showing shown = ShowsStates T N W hard showing shown

-- ---- one heading

-- the goal in the last state
pub record IsGoalHeading (T : Task) (N : Numbers) (plan : Plan) (heading : Heading) : Type 0 where
  pub spot : heading.spot ≡ None
  pub subject : heading.subject ≡ subject.Goal
  pub shown : ShowsFailing N (hard_matter T [] T.problem.goal.body) (visited T plan) (length plan) heading.shown

-- an operator at its place, with what its variables mean
pub record IsOperatorHeading (T : Task) (N : Numbers) (W : List State) (at : Option Spot) (of : OperatorKind → List Binding → heading.Subject) (hard : HardModal) (showing : Showing) (heading : Heading) : Type 0 where
  pub bindings : List Binding
  pub bound : bound_by N bindings ≡ hard.env
  pub spot : heading.spot ≡ at
  pub subject : heading.subject ≡ of (kind_of hard.modal) bindings
  pub shown : ShowsOperator T N W hard showing heading.shown

-- a hard constraint by its number
pub record IsConstraintHeading (T : Task) (N : Numbers) (texts : Texts) (W : List State) (number : ℕ) (showing : Showing) (heading : Heading) : Type 0 where
  pub hard : HardModal
  pub role : Role
  pub at : slice_get (hard_list T) number ≡ Some hard
  pub half : slice_get (hard_roles T) number ≡ Some role
  pub operator : IsOperatorHeading T N W (option_map (spot_of texts role) (first_word_of hard.modal)) (subject.Constraint number) hard showing heading

-- the number is that of the name, where there is one
abbrev pub IsNumberOf : Numbers → Option Name → Option ℕ → Type 0
IsNumberOf N name number = option_map (name_at N.preferences) number ≡ name

-- an operator of an instance of a preference, at its word `preference` where its formulas have no word
pub record IsPreferenceHeading (T : Task) (N : Numbers) (texts : Texts) (W : List State) (number part : ℕ) (showing : Showing) (heading : Heading) : Type 0 where
  pub instance : Instance
  pub role : Role
  pub hard : HardModal
  pub name : Option ℕ
  pub at : slice_get (instances T) number ≡ Some instance
  pub half : slice_get (instance_roles T) number ≡ Some role
  pub part_at : slice_get (operators T instance.env instance.body) part ≡ Some hard
  pub named : IsNumberOf N instance.name name
  pub operator : IsOperatorHeading T N W (Some (spot_of texts role (unwrap_or (first_word_of hard.modal) instance.at))) (subject.Preference name) hard showing heading

-- a preference of a step, in the state before it
pub record IsStepHeading (T : Task) (N : Numbers) (texts : Texts) (plan : Plan) (step number : ℕ) (heading : Heading) : Type 0 where
  pub own : Step
  pub pref : StatePref
  pub name : Option ℕ
  pub bindings : List Binding
  pub step_at : slice_get plan (step - 1) ≡ Some own
  pub at : slice_get (step_prefs T own) number ≡ Some pref
  pub named : IsNumberOf N pref.name name
  pub bound : bound_by N bindings ≡ pref.env
  pub spot : heading.spot ≡ Some (spot_of texts Domain pref.at)
  pub subject : heading.subject ≡ subject.StepPreference name step bindings
  pub shown : ShowsFailing N (formula_matter T pref.env pref.body) (visited T plan) (step - 1) heading.shown

abbrev pub IsHeadingBy : Task → Numbers → Texts → Plan → Subject → Showing → Heading → Type 0
IsHeadingBy T N texts plan (Hard number) showing heading = IsConstraintHeading T N texts (visited T plan) number showing heading
IsHeadingBy T N texts plan (Soft instance part) showing heading = IsPreferenceHeading T N texts (visited T plan) instance part showing heading
IsHeadingBy T N texts plan (Pre step pref) showing heading = IsStepHeading T N texts plan step pref heading

-- the heading of a reason
abbrev pub IsHeadingOf : Task → Numbers → Texts → Plan → Reason → Heading → Type 0
IsHeadingOf T N texts plan reason heading = IsHeadingBy T N texts plan reason.subject reason.showing heading

-- ---- all of them

-- none where the goal holds, and else one
abbrev pub AreGoalHeadings : Task → Numbers → Plan → Bool → List Heading → Type 0
AreGoalHeadings T N plan true headings = headings ≡ []
AreGoalHeadings T N plan false [] = ⊥
AreGoalHeadings T N plan false (heading ∷ headings) = IsGoalHeading T N plan heading × (headings ≡ [])

pub record AreUnmet (T : Task) (N : Numbers) (texts : Texts) (plan : Plan) (headings : List Heading) : Type 0 where
  pub goal : List Heading
  pub others : List Heading
  pub whole : headings ≡ goal ++ others
  pub goal_told : AreGoalHeadings T N plan (goal_holds T plan) goal
  pub told : AllZip (IsHeadingOf T N texts plan) (filter is_unmet (reasons T plan)) others
