-- Questions about the states of a plan: whether a condition holds there, and which literals decide it.
use Rattle.std.specs.Prelude.{◌≡◌, ℕ, ◌<◌, List, [], take, length}
use Rattle.std.specs.List.{AllZip}
use Rattle.p3_base.specs.declared.showing.Showing.{Showing}
use Rattle.p3_task.specs.Constraints.{HardModal}
use Rattle.p3_task.specs.Goals.{StatePref}
use Rattle.p3_task.specs.Offences.{WellFormed}
use Rattle.p3_task.specs.Plans.{Plan, arguments, state_at, visited}
use Rattle.p3_task.specs.declared.task.Step.{Step}
use Rattle.p3_task.specs.declared.task.Task.{Task}
use Rattle.p3_numbers.specs.Slots.{Slots}
use Rattle.p3_numbers.specs.Tasks.{IsNumberedTask, numbered_action}
use Rattle.p3_numbers.specs.declared.condition.NumberedCondition.{NumberedCondition}
use Rattle.p3_numbers.specs.declared.goal.NumberedGoal.{NumberedGoal}
use Rattle.p3_numbers.specs.declared.numbers.Numbers.{Numbers}
use Rattle.p3_numbers.specs.declared.task.NumberedTask.{NumberedTask}
use Rattle.p3_reasons.specs.Decisions.{IsDecision, formula_matter, hard_matter}
use Rattle.p3_reasons.specs.Evidences.{evidence_of, operand_of}
use Rattle.p3_reasons.specs.Outcomes.{Test, decision_of, hard_outcome, outcome}
use Rattle.p3_reasons.specs.Visits.{IsPlaced, test_after}
use Rattle.p3_reasons.specs.declared.decision.Decision.{Decision}
use Rattle.p3_reasons.specs.declared.evidence.Operand.{Operand}
use Rattle.p3_reasons.specs.declared.visited.PlacedStep.{PlacedStep}
use Rattle.p3_scenes.specs.Bound.{IsBound, IsBoundPref}
use Rattle.p3_scenes.specs.Scenes.{Scene, StateScene}
use Rattle.p3_scenes.specs.Seen.{seen}
use Rattle.p3_scenes.specs.declared.question.Asked.{Asked}
use Rattle.p3_scenes.specs.declared.question.Asked.TheVariants.{Condition, HardPart}
use Rattle.p3_scenes.specs.declared.question.Question.{Question}
use Rattle.p3_scenes.specs.declared.scene.OperatorScene.{OperatorScene}

-- ---- what is answered

-- of a condition at objects, by the atoms that are true
abbrev pub decided : NumberedTask → Test → Slots → NumberedCondition → Decision
decided X test slots condition = decision_of test (outcome X.numbers test slots condition)

abbrev pub hard_decided : NumberedTask → Test → Slots → NumberedGoal → Decision
hard_decided X test slots goal = decision_of test (hard_outcome X.numbers test slots goal)

abbrev pub asked_decided : NumberedTask → Test → Slots → Asked → Decision
asked_decided X test slots (Condition condition) = decided X test slots condition.now
asked_decided X test slots (HardPart goal) = hard_decided X test slots goal.now

-- by those that are true behind so many steps as its state is counted
abbrev pub answer_to : NumberedTask → List PlacedStep → Question → Decision
answer_to X steps question = asked_decided X (test_after X (take question.state steps)) question.slots.now question.asked

-- ---- what it says

-- a plan, and its steps by number
pub record AreSteps (T : Task) (X : NumberedTask) (plan : Plan) (steps : List PlacedStep) : Type 0 where
  pub well : WellFormed T
  pub numbered : IsNumberedTask T X
  pub placed : AllZip (IsPlaced T X) plan steps

-- the formula of an operator in a visited state
abbrev pub OperatorsAreAnswered : Type 0
OperatorsAreAnswered = (T : Task) (X : NumberedTask) (plan : Plan) (steps : List PlacedStep) → AreSteps T X plan steps
    → (state : ℕ) → state < length (visited T plan) → (hard : HardModal) (scene : Scene) → IsBound X.numbers hard scene → (operand : Operand)
    → IsDecision X.numbers (formula_matter T hard.env (operand_of hard.modal operand)) (state_at (visited T plan) state) (decided X (test_after X (take state steps)) scene.slots (operand_of scene.operator operand))

-- a preference over one state
abbrev pub PreferencesAreAnswered : Type 0
PreferencesAreAnswered = (T : Task) (X : NumberedTask) (plan : Plan) (steps : List PlacedStep) → AreSteps T X plan steps
    → (state : ℕ) → state < length (visited T plan) → (pref : StatePref) (scene : StateScene) → IsBoundPref X.numbers pref scene
    → IsDecision X.numbers (formula_matter T pref.env pref.body) (state_at (visited T plan) state) (decided X (test_after X (take state steps)) scene.slots scene.condition)

-- the hard part of the precondition of a step
abbrev pub PreconditionsAreAnswered : Type 0
PreconditionsAreAnswered = (T : Task) (X : NumberedTask) (plan : Plan) (steps : List PlacedStep) → AreSteps T X plan steps
    → (state : ℕ) → state < length (visited T plan) → (step : Step) (placed : PlacedStep) (is : IsPlaced T X step placed)
    → IsDecision X.numbers (hard_matter T (arguments is.action step) is.action.pre.body) (state_at (visited T plan) state) (hard_decided X (test_after X (take state steps)) placed.objects (numbered_action X.numbers is.action).pre)

-- and that of the goal
abbrev pub GoalsAreAnswered : Type 0
GoalsAreAnswered = (T : Task) (X : NumberedTask) (plan : Plan) (steps : List PlacedStep) → AreSteps T X plan steps
    → (state : ℕ) → state < length (visited T plan)
    → IsDecision X.numbers (hard_matter T [] T.problem.goal.body) (state_at (visited T plan) state) (hard_decided X (test_after X (take state steps)) [] X.goal)

-- what is evident of the operator that a scene lends is what is evident of the named one
abbrev pub EvidenceIsKept : Type 0
EvidenceIsKept = (N : Numbers) (hard : HardModal) (scene : OperatorScene) → IsBound N hard (seen scene) → (showing : Showing) → evidence_of scene.operator showing ≡ evidence_of hard.modal showing
