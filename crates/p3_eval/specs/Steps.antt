-- The steps of a plan by their numbers, until one has none.
use Rattle.std.specs.Prelude.{◌≡◌, ℕ, List, [], ◌∷◌, ◌++◌, Option, Some, None}
use Rattle.std.specs.List.{All}
use Rattle.p3_task.specs.Plans.{Plan}
use Rattle.p3_task.specs.PlanTexts.{IsPlanText}
use Rattle.p3_task.specs.declared.task.Step.{Step}
use Rattle.p3_task.specs.declared.task.Task.{Task}
use Rattle.p3_types.specs.Finds.{IsFound}
use Rattle.p3_types.specs.declared.finding.Found.{Found}
use Rattle.p3_types.specs.declared.finding.Found.TheVariants.{Number, UnknownAction, Arguments}
use Rattle.p3_ground.specs.PlansByNumber.{AreNumbers}
use Rattle.p3_ground.specs.StandsFor.{LeftOutAt}
use Rattle.p3_run.specs.Runs.{Ran}
use Rattle.p3_eval.specs.Runs.{BelongTogether}
use Rattle.p3_eval.specs.declared.steps.Steps.{Steps}

-- the step is found as one without a number
abbrev pub LacksNumber : Task → Step → Found → Type 0
LacksNumber T step (Number number) = ⊥
LacksNumber T step UnknownAction = IsFound T step UnknownAction
LacksNumber T step Arguments = IsFound T step Arguments

-- the plan ends there, or goes on with a step that has no number and is found so
abbrev pub GoesOnAs : Task → Plan → Option Found → Type 0
GoesOnAs T rest None = rest ≡ []
GoesOnAs T rest (Some found) = (step : Step) × (more : Plan) × (rest ≡ step ∷ more) × LacksNumber T step found

-- the numbers are those of the first steps of the plan, and behind them it goes on so
pub record AreFirst (T : Task) (plan : Plan) (numbers : List ℕ) (next : Option Found) : Type 0 where
  pub front : Plan
  pub rest : Plan
  pub parts : plan ≡ front ++ rest
  pub are : AreNumbers T front numbers
  pub behind : GoesOnAs T rest next

abbrev pub AreStepsOf : Task → Plan → Steps → Type 0
AreStepsOf T plan steps = AreFirst T plan steps.numbers.items steps.rest

-- it is so of the plan that has these steps
abbrev pub OfSteps : Task → Steps → (Plan → Type 0) → Type 0
OfSteps T steps Says = (plan : Plan) → AreStepsOf T plan steps → Says plan

-- there is a plan that has these steps
pub record AreOfPlan (T : Task) (steps : Steps) : Type 0 where
  pub plan : Plan
  pub are : AreStepsOf T plan steps

-- it is so of the plan of the text
abbrev pub OfPlanText : List ℕ → (Plan → Type 0) → Type 0
OfPlanText text Says = (plan : Plan) → IsPlanText text plan → Says plan

-- it is so of each task that the run is of and whose steps of these numbers are there or can begin in no reached state, and of the plan that has these steps
abbrev pub OfItsSteps : Ran → Steps → (Task → Plan → Type 0) → Type 0
OfItsSteps ran steps Says = (T : Task) → BelongTogether T ran.task ran.weights → All (LeftOutAt T ran.task) steps.numbers.items → OfSteps T steps (Says T)
