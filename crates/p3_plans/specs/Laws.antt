-- Which texts are of plans, and what a reader gives of them.
use Rattle.std.specs.Prelude.{◌≡◌, ◌≤◌, ℕ, length, List, [], ◌∷◌, codes, Some, None}
use Prim.Native.String.{String}
use Rattle.p3_base.specs.declared.refusal.Code.TheVariants.{Unbalanced}
use Rattle.p3_task.specs.Plans.{Plan}
use Rattle.p3_task.specs.PlanTexts.{IsPlanText, refusal, step_limit}
use Rattle.p3_plans.specs.Steps.{StepText, Left, left}

-- the text is of a plan that may be read
pub record HasPlan (text : List ℕ) : Type 0 where
  pub plan : Plan
  pub spelled : IsPlanText text plan
  pub few : length plan ≤ step_limit

-- what a new reader gives of a text
abbrev pub all_of : List ℕ → Left
all_of text = left (record { source = text; at = 0; given = 0; stopped = None })

abbrev pub given_of : String → Left
given_of text = all_of (codes text)

-- the slices are as many as the steps, and each taken alone is a text of its step
unfoldable pub AreTextsOf : List StepText → Plan → Type 0
AreTextsOf [] [] = Unit {0}
AreTextsOf [] (step ∷ plan) = ⊥
AreTextsOf (slice ∷ slices) [] = ⊥
AreTextsOf (slice ∷ slices) (step ∷ plan) = IsPlanText slice.text (step ∷ []) × AreTextsOf slices plan

-- the steps that end before an offence come before it; letters stay as they are
pub record StepsBeforeOffences : Type 0 where
  pub broken : given_of "(a) (a" ≡ record { steps = record { at = 0; text = codes "(a)" } ∷ []; offence = Some (refusal Unbalanced 6 0) }
  pub whole : given_of "; (c)\n(A b) ( d )" ≡ record { steps = record { at = 6; text = codes "(A b)" } ∷ record { at = 12; text = codes "( d )" } ∷ []; offence = None }
