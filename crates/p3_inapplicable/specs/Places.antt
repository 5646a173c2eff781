-- Where the step of a number stands in the text of a plan.
use Rattle.std.specs.Prelude.{◌≡◌, ℕ, List, take, drop, slice_get, Some}
use Rattle.p3_task.specs.PlanTexts.{IsPlanText}
use Rattle.p3_task.specs.Plans.{Plan}
use Rattle.p3_plans.specs.Steps.{StepText}
use Rattle.p3_plans.specs.declared.reader.PlanStep.{PlanStep}

-- what a reader gives
abbrev pub slice_of : PlanStep → StepText
slice_of step = record { at = step.offset; text = step.text.now }

-- the step at a place, counted from 0, begins at the offset: a `(` stands there, the text before it is one of the steps before, and the text from it on is one of that step and those behind it
pub record BeginsAt (text : List ℕ) (plan : Plan) (place offset : ℕ) : Type 0 where
  pub opens : slice_get text offset ≡ Some 40
  pub before : IsPlanText (take offset text) (take place plan)
  pub rest : IsPlanText (drop offset text) (drop place plan)
