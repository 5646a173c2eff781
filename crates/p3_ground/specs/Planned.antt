-- The ground steps that are made of the planned steps of a task, or of some of them.
use Rattle.std.specs.Prelude.{◌≡◌, ℕ, true, List, length, Option, Some, None, Contains, IsTrue}
use Rattle.std.specs.List.{All}
use Rattle.p3_task.specs.Costs.{cost_places}
use Rattle.p3_task.specs.Lifting.{steps}
use Rattle.p3_task.specs.Offences.{WellFormed}
use Rattle.p3_task.specs.declared.task.Task.{Task}
use Rattle.p3_formula.specs.Conditions.{rises}
use Rattle.p3_formula.specs.declared.task.GroundStep.{GroundStep}
use Rattle.p3_formula.specs.declared.task.GroundTask.{GroundTask}
use Rattle.p3_numbers.specs.Tasks.{IsNumberedTask}
use Rattle.p3_numbers.specs.declared.task.NumberedTask.{NumberedTask}
use Rattle.p3_steps.specs.Steps.{PlannedStep, StepsAreMade, all_atoms, count_of_steps, planned_among, planned_steps}
use Rattle.p3_expansion.specs.Atoms.{GroundAtom, are_named}
use Rattle.p3_expansion.specs.declared.statics.Statics.{Statics}
use Rattle.p3_ground.specs.Expanded.{IsKept}
use Rattle.p3_ground.specs.Grounding.{KeepsAt, MayBegin}

-- ---- the steps that are wanted: all that may begin, or those of them that have one of some numbers

abbrev pub wanted_steps : NumberedTask → Statics → Option (List ℕ) → List PlannedStep
wanted_steps X S None = planned_steps X S
wanted_steps X S (Some those) = planned_among X S those

abbrev pub IsWanted : Option (List ℕ) → ℕ → Type 0
IsWanted None number = Unit {0}
IsWanted (Some those) number = Contains those number

-- each is a kept step that may begin and is wanted, their numbers rise, and each wanted step that may begin is among them
pub record AreAllThatMayBegin (T : Task) (X : NumberedTask) (S : Statics) (atoms : List GroundAtom) (wanted : Option (List ℕ)) (made : List GroundStep) : Type 0 where
  pub kept : All (IsKept T X S atoms) made
  pub may : All (MayBegin T X S) made
  pub only : All (λ (step : GroundStep). IsWanted wanted step.number) made
  pub rising : IsTrue (rises 0 (length (steps T)) made)
  pub whole : (G : GroundTask) → G.steps ≡ made → (number : ℕ) → IsWanted wanted number → KeepsAt T X S G number

-- the steps that are made of the wanted ones, with costs in the units of the task, are such
abbrev pub PlannedStepsAreAll : Task → NumberedTask → Statics → List GroundAtom → Type 0
PlannedStepsAreAll T X S atoms = (wanted : Option (List ℕ)) (made : List GroundStep) → StepsAreMade X S (cost_places T) atoms (wanted_steps X S wanted) made → AreAllThatMayBegin T X S atoms wanted made

-- ---- names and counts

-- all atoms of the wanted steps of a well-formed task have names
abbrev pub PlannedStepsReadNames : Type 0
PlannedStepsReadNames = (T : Task) (X : NumberedTask) (S : Statics) (wanted : Option (List ℕ)) → WellFormed T → IsNumberedTask T X → are_named X.numbers (all_atoms X.numbers (wanted_steps X S wanted)) ≡ true

-- the planned steps are counted over all steps of the task
abbrev pub StepsAreCounted : Type 0
StepsAreCounted = (T : Task) (X : NumberedTask) → WellFormed T → IsNumberedTask T X → count_of_steps X.numbers X.actions ≡ length (steps T)
