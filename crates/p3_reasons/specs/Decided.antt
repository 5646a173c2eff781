-- What is told by number decides what the named trees say.
use Rattle.std.specs.Prelude.{◌≡◌, true}
use Rattle.p3_task.specs.States.{State, has_fact}
use Rattle.p3_task.specs.declared.formula.Formula.{Formula}
use Rattle.p3_task.specs.declared.goal.PreGoal.{PreGoal}
use Rattle.p3_task.specs.declared.task.Task.{Task}
use Rattle.p3_numbers.specs.Conditions.{condition_of, is_known_formula}
use Rattle.p3_numbers.specs.Goals.{goal_of, is_known_goal}
use Rattle.p3_numbers.specs.Places.{Variables, Fills, environment_of}
use Rattle.p3_numbers.specs.Slots.{Slots}
use Rattle.p3_numbers.specs.Tasks.{IsNumberedTask}
use Rattle.p3_numbers.specs.declared.numbers.Numbers.{Numbers}
use Rattle.p3_numbers.specs.declared.task.NumberedTask.{NumberedTask}
use Rattle.p3_expansion.specs.Atoms.{GroundAtom, fact_of, is_named}
use Rattle.p3_reasons.specs.Decisions.{IsDecision, formula_matter, hard_matter}
use Rattle.p3_reasons.specs.Outcomes.{Test, outcome, hard_outcome, decision_of}

-- the test passes the atoms that are true in the state
abbrev pub TellsFacts : Numbers → Test → State → Type 0
TellsFacts N test s = (atom : GroundAtom) → is_named N atom ≡ true → test atom ≡ has_fact s (fact_of N atom)

-- a formula is decided by what its condition comes to
abbrev pub FormulasAreDecided : Type 0
FormulasAreDecided = (T : Task) (X : NumberedTask) → IsNumberedTask T X → (s : State) (test : Test) → TellsFacts X.numbers test s
    → (tree : Formula) (scope : Variables) (slots : Slots) → Fills X.numbers scope slots → is_known_formula X.numbers tree scope ≡ true
    → IsDecision X.numbers (formula_matter T (environment_of X.numbers scope slots) tree) s (decision_of test (outcome X.numbers test slots (condition_of X.numbers tree scope)))

-- and so is the hard part of a precondition or a goal
abbrev pub HardPartsAreDecided : Type 0
HardPartsAreDecided = (T : Task) (X : NumberedTask) → IsNumberedTask T X → (s : State) (test : Test) → TellsFacts X.numbers test s
    → (tree : PreGoal) (scope : Variables) (slots : Slots) → Fills X.numbers scope slots → is_known_goal X.numbers tree scope ≡ true
    → IsDecision X.numbers (hard_matter T (environment_of X.numbers scope slots) tree) s (decision_of test (hard_outcome X.numbers test slots (goal_of X.numbers tree scope)))
