-- The account of a plan: its verdict, what shows it, and what its metric is made of.
use Rattle.std.specs.Prelude.{◌≡◌, ℕ, Bool, true, false, List, [], ◌∷◌, Option, Some, None, option_map}
use Rattle.std.specs.List.{AllZip}
use Rattle.p3_task.specs.Explanations.{reasons}
use Rattle.p3_task.specs.PlanTexts.{plan_offence}
use Rattle.p3_task.specs.Plans.{Plan}
use Rattle.p3_task.specs.StepNumbers.{HasNumber}
use Rattle.p3_task.specs.Validity.{Fault, Misfit, AtStep, AtGoal, AtConstraint, first_fault, step_fault}
use Rattle.p3_task.specs.declared.task.Task.{Task}
use Rattle.p3_numbers.specs.declared.task.NumberedTask.{NumberedTask}
use Rattle.p3_types.specs.declared.checked.Checked.{Checked}
use Rattle.p3_reasons.specs.Visits.{IsPlaced}
use Rattle.p3_reasons.specs.declared.visited.PlacedStep.{PlacedStep}
use Rattle.p3_reports.specs.Faults.{fault_named}
use Rattle.p3_accounts.specs.Shares.{AreShares}
use Rattle.p3_accounts.specs.declared.account.Account.{Account}
use Rattle.p3_accounts.specs.declared.heading.Heading.{Heading}
use Rattle.p3_accounts.specs.declared.share.Shares.{Shares}
use Rattle.p3_eval.specs.Judged.{fault_in}
use Rattle.p3_eval.specs.Steps.{AreStepsOf, OfPlanText}
use Rattle.p3_eval.specs.declared.grounded.Grounded.{Grounded}
use Rattle.p3_eval.specs.declared.steps.Steps.{Steps}
use Rattle.p3_explain.specs.declared.explaining.Explanation.{Explanation}
use Rattle.p3_inapplicable.specs.Headings.{IsMisfitOf, IsStepHeading}
use Rattle.p3_shares.specs.Adding.{AddsUp}
use Rattle.p3_unmet.specs.Unmet.{AreUnmet}
use Rattle.p3_findings.specs.Texts.{Read, halves}

-- ---- the account

-- of a plan whose steps fit: what is not satisfied, and what the metric is made of
pub record IsOfFittingPlan (T : Task) (X : NumberedTask) (texts : Read) (plan : Plan) (account : Account) : Type 0 where
  pub unmet : AreUnmet T X.numbers (halves texts) plan account.headings
  pub shares : Shares
  pub told : account.shares ≡ Some shares
  pub are : AreShares X.numbers T plan shares
  pub add_up : AddsUp T shares

-- of one with a step that does not fit: that step
pub record IsOfMisfit (T : Task) (X : NumberedTask) (texts : Read) (plan : Plan) (number : ℕ) (kind : Misfit) (account : Account) : Type 0 where
  pub heading : Heading
  pub alone : account.headings ≡ heading ∷ []
  pub is : IsStepHeading T X texts.plan plan number kind heading
  pub no_shares : account.shares ≡ None

-- by the first step that does not fit, where there is one
abbrev pub IsOf : Task → NumberedTask → Read → Plan → Option Fault → Account → Type 0
IsOf T X texts plan None account = IsOfFittingPlan T X texts plan account
IsOf T X texts plan (Some (AtStep number kind)) account = IsOfMisfit T X texts plan number kind account
IsOf T X texts plan (Some AtGoal) account = ⊥
IsOf T X texts plan (Some (AtConstraint number)) account = ⊥

pub record IsAccount (T : Task) (X : NumberedTask) (texts : Read) (plan : Plan) (account : Account) : Type 0 where
  pub verdict : account.verdict ≡ option_map fault_named (first_fault T plan)
  pub is : IsOf T X texts plan (step_fault T plan) account

-- it is so of each plan that the text spells
abbrev pub IsAccountOf : Task → NumberedTask → Read → Account → Type 0
IsAccountOf T X texts account = OfPlanText texts.plan (λ plan. IsAccount T X texts plan account)

-- a first fault is not that of the goal
abbrev pub spares_goal : Option Fault → Bool
spares_goal None = true
spares_goal (Some (AtStep number kind)) = true
spares_goal (Some AtGoal) = false
spares_goal (Some (AtConstraint number)) = true

-- ---- what is known of the plan

-- nothing is refused of its text, and it has these steps
pub record HasSteps (T : Task) (text : List ℕ) (steps : Steps) : Type 0 where
  pub free : plan_offence text ≡ None
  pub are : OfPlanText text (λ plan. AreStepsOf T plan steps)

-- the steps that have a number are placed so, up to one that has none
abbrev pub ArePlaced : Task → NumberedTask → Steps → List PlacedStep → Type 0
ArePlaced T X steps placed = (plan : Plan) → AllZip (HasNumber T) plan steps.numbers.items → AllZip (IsPlaced T X) plan placed

-- its steps fit and are placed so, and this is explained of it
pub record IsFitting (grounded : Grounded) (placed : List PlacedStep) (explanation : Explanation) (plan : Plan) : Type 0 where
  pub fit : step_fault grounded.checked.now.task plan ≡ None
  pub are_placed : AllZip (IsPlaced grounded.checked.now.task grounded.checked.now.numbered) plan placed
  pub fault : first_fault grounded.checked.now.task plan ≡ option_map fault_in explanation.fault
  pub reasons : explanation.reasons ≡ reasons grounded.checked.now.task plan

-- one of them does not fit, which is the fault, and the first are placed so, as far as they have a number
abbrev pub IsMisfit : Checked → List ℕ → List PlacedStep → Fault → Plan → Type 0
IsMisfit checked text placed (AtStep number kind) plan = IsMisfitOf checked.task checked.numbered text plan placed number kind
IsMisfit checked text placed AtGoal plan = ⊥
IsMisfit checked text placed (AtConstraint number) plan = ⊥
