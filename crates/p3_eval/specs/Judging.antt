-- What judging the text of a plan answers: its first fault, or that it is valid.
use Rattle.std.specs.Prelude.{◌≡◌, ℕ, ◌≤◌, List, [], ◌∷◌, ◌++◌, Option, Some, None, option_map}
use Rattle.p3_task.specs.Limits.{step_count}
use Rattle.p3_task.specs.Plans.{Plan}
use Rattle.p3_task.specs.PlanTexts.{IsPlanText, plan_offence}
use Rattle.p3_task.specs.StepNumbers.{HasNumber}
use Rattle.p3_task.specs.Validity.{first_fault}
use Rattle.p3_task.specs.declared.task.Step.{Step}
use Rattle.p3_task.specs.declared.task.Task.{Task}
use Rattle.p3_task.specs.Sides.{step_count_limit}
use Rattle.p3_plans.specs.Laws.{AreTextsOf}
use Rattle.p3_plans.specs.Steps.{Left}
use Rattle.p3_eval.specs.Judged.{HasItsStep, fault_in}
use Rattle.p3_eval.specs.Runs.{BelongTogether}
use Rattle.p3_formula.specs.declared.task.GroundTask.{GroundTask}
use Rattle.p3_ground.specs.PlansByNumber.{AreNumbers}
use Rattle.p3_ground.specs.StandsFor.{LeavesOutOnlyUnfit, LeftOutAt}
use Rattle.p3_run.specs.Runs.{Ran, ran_after}
use Rattle.p3_run.specs.declared.answers.Stepped.TheVariants.{Done}
use Rattle.p3_eval.specs.declared.fault.PlanFault.{PlanFault}
use Rattle.p3_eval.specs.declared.text_judging.TextVerdict.{TextVerdict}
use Rattle.p3_eval.specs.declared.text_judging.TextVerdict.TheVariants.{Refused, Invalid, Valid}

-- ---- runs of a task

-- the run is of the task, and few enough are its steps, each of which is there or can begin in no reached state
pub record IsRunOf (T : Task) (ran : Ran) : Type 0 where
  pub together : BelongTogether T ran.task ran.weights
  pub left_out : LeavesOutOnlyUnfit T ran.task
  pub few : step_count T ≤ step_count_limit

-- the text is that of one step
pub record HasStep (text : List ℕ) : Type 0 where
  pub step : Step
  pub spelled : IsPlanText text (step ∷ [])

-- behind the steps done the step was done, or it is the first fault of each plan that goes on with it
abbrev pub Goes : Task → Ran → Ran → Step → Option PlanFault → Plan → Type 0
Goes T old new step None front = (number : ℕ) × HasNumber T step number × (new ≡ ran_after old number Done)
Goes T old new step (Some told) front = (rest : Plan) → first_fault T (front ++ step ∷ rest) ≡ Some (fault_in told)

-- so it goes with the step of the text
abbrev pub GoesOn : Task → Ran → Ran → List ℕ → Option PlanFault → Type 0
GoesOn T old new text found = (step : Step) → IsPlanText text (step ∷ []) → (front : Plan) → AreNumbers T front old.plan → Goes T old new step found front

-- where the step of the text has a number, it is there or can begin in no reached state
abbrev pub IsAskedText : Task → GroundTask → List ℕ → Type 0
IsAskedText T G text = (step : Step) → IsPlanText text (step ∷ []) → (number : ℕ) → HasNumber T step number → LeftOutAt T G number

-- ---- plans

-- the first fault of the plan of the text
abbrev pub IsFirstFault : Task → List ℕ → Option PlanFault → Type 0
IsFirstFault T text found = (plan : Plan) → IsPlanText text plan → first_fault T plan ≡ option_map fault_in found

-- the run has done the steps of the plan of the text
abbrev pub HasDone : Task → List ℕ → Ran → Type 0
HasDone T text ran = (plan : Plan) → IsPlanText text plan → AreNumbers T plan ran.plan

-- the first offence of the text, or else the first fault of its plan; where there is none, the run has done its steps
abbrev pub IsVerdict : Task → List ℕ → Ran → TextVerdict → Type 0
IsVerdict T text ran (Refused refusal) = plan_offence text ≡ Some refusal
IsVerdict T text ran (Invalid told) = (plan_offence text ≡ None) × IsFirstFault T text (Some told) × HasItsStep told
IsVerdict T text ran Valid = (plan_offence text ≡ None) × IsFirstFault T text None × HasDone T text ran

-- ---- the loop over the steps

-- the numbers are those of the first steps of the plan, and the slices that are left are texts of the others
pub record IsFollowed (T : Task) (plan : Plan) (numbers : List ℕ) (left : Left) : Type 0 where
  pub front : Plan
  pub rest : Plan
  pub parts : plan ≡ front ++ rest
  pub are : AreNumbers T front numbers
  pub slices : AreTextsOf left.steps rest
  pub free : left.offence ≡ None

-- so it is of the plan of the text
abbrev pub Follows : Task → List ℕ → List ℕ → Left → Type 0
Follows T text numbers left = (plan : Plan) → IsPlanText text plan → IsFollowed T plan numbers left
