-- The account of a plan by the first step that does not fit.
use Rattle.std.proofs.Common.{◌≡◌, ◌∙◌, ℕ, ◌≤◌, List, [], ◌∷◌, length, Bool, true, false, not, Option, Some, None, refl, sym, ap, subst}
use Rattle.std.specs.Prelude.{if◌then◌else◌, option_map, position}
use Rattle.std.specs.Option.{option_or}
use Rattle.p3_task.specs.Constraints.{HardModal, hard_list}
use Rattle.p3_task.specs.Offences.{WellFormed}
use Rattle.p3_task.specs.PlanTexts.{IsPlanText, plan_offence, step_limit}
use Rattle.p3_task.specs.Plans.{Plan}
use Rattle.p3_task.specs.States.{start}
use Rattle.p3_task.specs.Validity.{Fault, Misfit, AtStep, AtGoal, AtConstraint, UnknownAction, Arguments, Precondition, NoCost, constraint_fault, first_fault, goal_fault, goal_holds, is_met, step_fault}
use Rattle.p3_task.specs.declared.task.Task.{Task}
use Rattle.p3_plans.proofs.PlanLaws.{a_plan_where_no_offence, one_plan_at_most}
use Rattle.p3_types.specs.declared.checked.Checked.{Checked}
use Rattle.p3_eval.proofs.RefusalLaws.{well_formed_from}
use Rattle.p3_reasons.specs.declared.visited.PlacedStep.{PlacedStep}
use Rattle.p3_reports.specs.Faults.{fault_named, misfit_named, misfit_of}
use Rattle.p3_reports.specs.declared.fault.Fault.TheVariants as fault
use Rattle.p3_reports.specs.declared.fault.Misfit as named
use Rattle.p3_accounts.specs.declared.account.Account.{Account}
use Rattle.p3_accounts.specs.declared.heading.Heading.{Heading}
use Rattle.p3_eval.specs.declared.steps.Steps.{Steps}
use Rattle.p3_inapplicable.specs.Headings.{IsStepHeading}
use Rattle.p3_findings.specs.Accounts.{ArePlaced, HasSteps, IsAccount, IsMisfit, IsOf}
use Rattle.p3_findings.specs.Texts.{Read}
use Rattle.p3_findings.proofs.PlacedLemmas.{IsStepFault, first_placed, is_among, of_step}

-- of a text that is not refused each plan is short
pub few_steps : (text : List ℕ) (plan : Plan) → plan_offence text ≡ None → IsPlanText text plan → length plan ≤ step_limit
few_steps text plan free spelled =
    let its = (a_plan_where_no_offence text).1 free in
    subst (λ one. length one ≤ step_limit) (one_plan_at_most text its.plan plan its.spelled spelled) its.few

-- a step that does not fit is the first fault
pub first_of_all : (T : Task) (plan : Plan) (fault : Fault) → step_fault T plan ≡ Some fault → first_fault T plan ≡ Some fault
unfolding first_fault
first_of_all T plan fault is = ap (λ found. option_or found (option_or (goal_fault T plan) (constraint_fault T plan))) is

never_other : (holds : Bool) (unmet : Option ℕ) (number : ℕ) (kind : Misfit) → option_or (if holds then None else Some AtGoal) (option_map AtConstraint unmet) ≡ Some (AtStep number kind) → ⊥
never_other true None number kind is = cc
never_other true (Some place) number kind is = cc
never_other false unmet number kind is = cc

-- a first fault of a step is that of the first step that does not fit
pub first_step : (T : Task) (plan : Plan) (number : ℕ) (kind : Misfit) → first_fault T plan ≡ Some (AtStep number kind) → step_fault T plan ≡ Some (AtStep number kind)
unfolding first_fault goal_fault constraint_fault
first_step T plan number kind is = by (step_fault T plan) is
  where
    by : (found : Option Fault) → option_or found (option_or (goal_fault T plan) (constraint_fault T plan)) ≡ Some (AtStep number kind) → found ≡ Some (AtStep number kind)
    by (Some fault) is = is
    by None is = absurd (never_other (goal_holds T plan) (position (λ (entry : HardModal). not (is_met T plan entry)) (hard_list T)) number kind is)

module _ (checked : Checked) (text : List ℕ) (steps : Steps) (has : HasSteps checked.task text steps) (placed : List PlacedStep) (are_placed : ArePlaced checked.task checked.numbered steps placed) where
  pub is_misfit : (plan : Plan) → IsPlanText text plan → (fault : Fault) → step_fault checked.task plan ≡ Some fault → IsMisfit checked text placed fault plan
  unfolding step_fault
  is_misfit plan spelled fault is =
      let T = checked.task in
      let well : WellFormed T = well_formed_from T checked.well_formed in
      let are = has.are plan spelled in
      let one : IsStepFault T 1 plan fault = of_step T 1 (start T) plan fault is in
      let first : step_fault T plan ≡ Some (AtStep one.number one.kind) = is ∙ ap Some one.is in
      subst (λ found. IsMisfit checked text placed found plan) (sym one.is) (record {
        spelled = spelled;
        few = few_steps text plan has.free spelled;
        misfit = record {
          placed = first_placed T well checked.numbered steps placed are_placed plan are;
          among = is_among T well checked.numbered steps placed are_placed plan are one.number one.kind first;
          first = first_of_all T plan (AtStep one.number one.kind) first;
        };
      })

-- ---- the account by its heading

kind_back : (kind : Misfit) → misfit_of (misfit_named kind) ≡ kind
kind_back UnknownAction = refl
kind_back Arguments = refl
kind_back Precondition = refl
kind_back NoCost = refl

-- the fault that is named so
pub named_back : (found : Fault) (number : ℕ) (kind : named.Misfit) → fault_named found ≡ fault.AtStep number kind → found ≡ AtStep number (misfit_of kind)
named_back (AtStep own why) number kind is =
    let first : own ≡ number = cc in
    let second : misfit_named why ≡ kind = cc in
    λ i. AtStep (first i) ((sym (kind_back why) ∙ ap misfit_of second) i)
named_back AtGoal number kind is = absurd (cc)
named_back (AtConstraint place) number kind is = absurd (cc)

-- the goal and constraints are no misfits
pub is_of_step : (checked : Checked) (text : List ℕ) (placed : List PlacedStep) (plan : Plan) (found : Fault) → IsMisfit checked text placed found plan → (number : ℕ) × (kind : Misfit) × (found ≡ AtStep number kind)
is_of_step checked text placed plan (AtStep number kind) is = (number, kind, refl)
is_of_step checked text placed plan AtGoal is = absurd is
is_of_step checked text placed plan (AtConstraint place) is = absurd is

-- the verdict and one heading of that step, and no shares
abbrev pub account_by : Fault → Heading → Account
account_by fault heading = record { verdict = Some (fault_named fault); headings = heading ∷ []; shares = None }

pub of_misfit : (checked : Checked) (texts : Read) (plan : Plan) (placed : List PlacedStep) (number : ℕ) (kind : Misfit) → IsMisfit checked texts.plan placed (AtStep number kind) plan
    → (heading : Heading) → IsStepHeading checked.task checked.numbered texts.plan plan number kind heading → IsAccount checked.task checked.numbered texts plan (account_by (AtStep number kind) heading)
of_misfit checked texts plan placed number kind misfit heading is =
    let first = first_step checked.task plan number kind misfit.misfit.first in
    record {
      verdict = sym (ap (option_map fault_named) misfit.misfit.first);
      is = subst (λ found. IsOf checked.task checked.numbered texts plan found (account_by (AtStep number kind) heading)) (sym first) (record { heading = heading; alone = refl; is = is; no_shares = refl });
    }
