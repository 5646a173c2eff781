-- What is read of the trees of a well-formed task: atoms whose parts have names.
use Rattle.std.specs.Prelude.{◌≡◌, ℕ, true, [], flat_map, slice_get, Some}
use Rattle.p3_task.specs.Offences.{WellFormed}
use Rattle.p3_task.specs.declared.task.Action.{Action}
use Rattle.p3_task.specs.declared.task.Task.{Task}
use Rattle.p3_numbers.specs.Places.{Fills, words_of}
use Rattle.p3_numbers.specs.Slots.{Slots}
use Rattle.p3_numbers.specs.Tasks.{IsNumberedTask, numbered_action}
use Rattle.p3_numbers.specs.declared.numbers.Numbers.{Numbers}
use Rattle.p3_numbers.specs.declared.task.NumberedAction.{NumberedAction}
use Rattle.p3_numbers.specs.declared.task.NumberedTask.{NumberedTask}
use Rattle.p3_expansion.specs.Atoms.{are_named}
use Rattle.p3_expansion.specs.Changes.{effect_atoms}
use Rattle.p3_expansion.specs.Hard.{hard_atoms}
use Rattle.p3_expansion.specs.Instances.{instance_atoms}
use Rattle.p3_expansion.specs.Operators.{operator_atoms}
use Rattle.p3_expansion.specs.Preferences.{preference_atoms}
use Rattle.p3_expansion.specs.TaskConstraints.{task_operators, task_instances}

-- those of an action at the objects in the slots
pub record IsNamedStep (N : Numbers) (slots : Slots) (action : NumberedAction) : Type 0 where
  pub pre : are_named N (hard_atoms N slots action.pre) ≡ true
  pub prefs : are_named N (preference_atoms N slots action.pre) ≡ true
  pub effects : are_named N (effect_atoms N slots action.effect) ≡ true

-- those of the constraints, of the goal and of each action at objects that fill the slots of its parameters
pub record ReadsAreNamed (T : Task) (X : NumberedTask) : Type 0 where
  pub hard : are_named X.numbers (flat_map (operator_atoms X.numbers) (task_operators X)) ≡ true
  pub soft : are_named X.numbers (flat_map (instance_atoms X.numbers) (task_instances X)) ≡ true
  pub goal : are_named X.numbers (hard_atoms X.numbers [] X.goal) ≡ true
  pub steps : (place : ℕ) (action : Action) (slots : Slots) → slice_get T.domain.actions place ≡ Some action → Fills X.numbers (words_of action.params) slots → IsNamedStep X.numbers slots (numbered_action X.numbers action)

abbrev pub WellFormedReadsNames : Type 0
WellFormedReadsNames = (T : Task) (X : NumberedTask) → WellFormed T → IsNumberedTask T X → ReadsAreNamed T X
