-- What was expanded over numbers, and which ground steps it makes.
use Rattle.std.specs.Prelude.{◌≡◌, ℕ, true, List, [], map, length, slice_get, Some, IsTrue, ◌+◌, ◌<◌, take, sum}
use Rattle.std.specs.List.{AllZip, All}
use Rattle.p3_task.specs.Constraints.{hard_list, instances}
use Rattle.p3_task.specs.Costs.{initial_cost}
use Rattle.p3_task.specs.Lifting.{steps}
use Rattle.p3_task.specs.StepNumbers.{HasNumber}
use Rattle.p3_task.specs.Goals.{hard_holds}
use Rattle.p3_task.specs.Offences.{WellFormed}
use Rattle.p3_task.specs.Plans.{action_named, step_cost}
use Rattle.p3_task.specs.declared.state.Fact.{Fact}
use Rattle.p3_task.specs.declared.task.Action.{Action}
use Rattle.p3_task.specs.declared.task.Step.{Step}
use Rattle.p3_task.specs.declared.task.Task.{Task}
use Rattle.p3_formula.specs.Conditions.{rises}
use Rattle.p3_formula.specs.declared.form.Form.{Form}
use Rattle.p3_formula.specs.GroundModal.{GroundModal}
use Rattle.p3_formula.specs.declared.modal.GroundSoft.{GroundSoft}
use Rattle.p3_formula.specs.declared.task.GroundStep.{GroundStep}
use Rattle.p3_formula.specs.declared.task.GroundTask.{GroundTask}
use Rattle.p3_numbers.specs.Choices.{choice, choice_count}
use Rattle.p3_numbers.specs.Goals.{preferences}
use Rattle.p3_numbers.specs.Places.{Fills, words_of, ranges_of}
use Rattle.p3_numbers.specs.Slots.{Slots, object_names}
use Rattle.p3_numbers.specs.Tasks.{IsNumberedTask, numbered_action}
use Rattle.p3_numbers.specs.declared.numbers.Numbers.{Numbers}
use Rattle.p3_numbers.specs.declared.task.NumberedTask.{NumberedTask}
use Rattle.p3_expansion.specs.Atoms.{GroundAtom, fact_of, are_named, AreDistinct}
use Rattle.p3_expansion.specs.Changes.{ChangesStand, always, guarded_literals}
use Rattle.p3_expansion.specs.Expansions.{Stands}
use Rattle.p3_expansion.specs.Hard.{hard_meaning}
use Rattle.p3_expansion.specs.Instances.{InstancesStand}
use Rattle.p3_expansion.specs.Operators.{OperatorsStand}
use Rattle.p3_expansion.specs.Preferences.{PreferencesStand}
use Rattle.p3_expansion.specs.Statics.{AreStatics, start_bits}
use Rattle.p3_expansion.specs.TaskConstraints.{task_operators, task_instances, HardHave, SoftHave}
use Rattle.p3_expansion.specs.declared.statics.Statics.{Statics}
use Rattle.p3_ground.specs.Sparse.{HasFewChanges, HasOwnAtoms, PartsHaveOwnAtoms, StepsHaveFewChanges, ConstraintsHaveOwnAtoms}
use Rattle.p3_ground.specs.StandsFor.{AreDifferent, HardStands, HasTruthOf, IsMadeOf, SoftStands, StandsBy}

-- the facts that the atoms say
abbrev pub facts_of : Numbers → List GroundAtom → List Fact
facts_of N atoms = map (fact_of N) atoms

-- a well-formed task over numbers, what its steps do not change, and atoms that have names and one number each
pub record AreExpanded (T : Task) (X : NumberedTask) (S : Statics) (atoms : List GroundAtom) : Type 0 where
  pub well : WellFormed T
  pub numbered : IsNumberedTask T X
  pub statics : AreStatics X S
  pub distinct : AreDistinct atoms
  pub named : are_named X.numbers atoms ≡ true

-- the step of an action at the objects in the slots of its parameters
pub record IsStepAt (T : Task) (N : Numbers) (action : Action) (slots : Slots) (step : Step) : Type 0 where
  pub place : ℕ
  pub here : slice_get T.domain.actions place ≡ Some action
  pub named : action_named T step.action ≡ Some action
  pub args : step.args ≡ object_names N slots
  pub fills : Fills N (words_of action.params) slots

-- the ground step stands for the parts of the numbered action at the objects
pub record IsStepExpanded (T : Task) (X : NumberedTask) (S : Statics) (atoms : List GroundAtom) (action : Action) (slots : Slots) (step : Step) (made : GroundStep) : Type 0 where
  pub pre : Stands X.numbers S atoms (hard_meaning X.numbers slots (numbered_action X.numbers action).pre) made.pre
  pub prefs : PreferencesStand X.numbers S atoms (preferences X.numbers slots (numbered_action X.numbers action).pre) made.prefs
  pub effects : ChangesStand X.numbers S atoms (guarded_literals X.numbers always true slots (numbered_action X.numbers action).effect) made.effects
  pub cost : made.cost ≡ step_cost T step

-- ---- the laws

-- what holds of everything that was expanded
abbrev pub OfExpanded : (Task → NumberedTask → Statics → List GroundAtom → Type 0) → Type 0
OfExpanded Says = (T : Task) (X : NumberedTask) (S : Statics) (atoms : List GroundAtom) → AreExpanded T X S atoms → Says T X S atoms

abbrev pub FactsDiffer : Task → NumberedTask → Statics → List GroundAtom → Type 0
FactsDiffer T X S atoms = AreDifferent (facts_of X.numbers atoms)

abbrev pub HardConstraintsStand : Task → NumberedTask → Statics → List GroundAtom → Type 0
HardConstraintsStand T X S atoms = (made : List GroundModal) → HardHave T X.numbers S atoms made → AllZip (HardStands T (facts_of X.numbers atoms)) (hard_list T) made

abbrev pub SoftConstraintsStand : Task → NumberedTask → Statics → List GroundAtom → Type 0
SoftConstraintsStand T X S atoms = (made : List GroundSoft) → SoftHave T X.numbers S atoms made → AllZip (SoftStands T (facts_of X.numbers atoms)) (instances T) made

abbrev pub GoalStands : Task → NumberedTask → Statics → List GroundAtom → Type 0
GoalStands T X S atoms = (form : Form) → Stands X.numbers S atoms (hard_meaning X.numbers [] X.goal) form → HasTruthOf T (facts_of X.numbers atoms) (λ s. hard_holds T s [] T.problem.goal.body) form

abbrev pub StepsStand : Task → NumberedTask → Statics → List GroundAtom → Type 0
StepsStand T X S atoms = (action : Action) (slots : Slots) (step : Step) (made : GroundStep) → IsStepAt T X.numbers action slots step → IsStepExpanded T X S atoms action slots step made → IsMadeOf T (facts_of X.numbers atoms) step made

abbrev pub StepsAreFew : Task → NumberedTask → Statics → List GroundAtom → Type 0
StepsAreFew T X S atoms = (action : Action) (slots : Slots) (step : Step) (made : GroundStep) → IsStepAt T X.numbers action slots step → IsStepExpanded T X S atoms action slots step made → HasFewChanges T (facts_of X.numbers atoms) step made.effects

-- the atoms of the constraints are those that their formulas mention
abbrev pub HardAtomsAreOwn : Task → NumberedTask → Statics → List GroundAtom → Type 0
HardAtomsAreOwn T X S atoms = (made : List GroundModal) → OperatorsStand X.numbers S atoms (task_operators X) made → AllZip (HasOwnAtoms T (facts_of X.numbers atoms)) (hard_list T) made

abbrev pub SoftAtomsAreOwn : Task → NumberedTask → Statics → List GroundAtom → Type 0
SoftAtomsAreOwn T X S atoms = (made : List GroundSoft) → InstancesStand X.numbers S atoms (task_instances X) made → AllZip (PartsHaveOwnAtoms T (facts_of X.numbers atoms)) (instances T) made

-- ---- a whole task

-- a kept step is one that was expanded, at its number
pub record IsKept (T : Task) (X : NumberedTask) (S : Statics) (atoms : List GroundAtom) (made : GroundStep) : Type 0 where
  pub action : Action
  pub slots : Slots
  pub step : Step
  pub number : HasNumber T step made.number
  pub at : IsStepAt T X.numbers action slots step
  pub is : IsStepExpanded T X S atoms action slots step made

-- the ground task is put together of what was expanded, with the costs, the numbers and the steps of the task
pub record IsPutTogether (T : Task) (X : NumberedTask) (S : Statics) (atoms : List GroundAtom) (G : GroundTask) : Type 0 where
  pub count : G.atoms ≡ length atoms
  pub initial : G.initial ≡ start_bits S atoms
  pub initial_cost : G.initial_cost ≡ initial_cost T
  pub step_count : G.step_count ≡ length (steps T)
  pub rising : IsTrue (rises 0 G.step_count G.steps)
  pub kept : All (IsKept T X S atoms) G.steps
  pub goal : Stands X.numbers S atoms (hard_meaning X.numbers [] X.goal) G.goal
  pub hard : OperatorsStand X.numbers S atoms (task_operators X) G.hard
  pub soft : InstancesStand X.numbers S atoms (task_instances X) G.soft
  pub names : G.names ≡ length X.numbers.preferences

-- it stands for the task, with few changes, and atoms of its constraints that are their own
pub record StandsWithLittle (T : Task) (facts : List Fact) (G : GroundTask) : Type 0 where
  pub stands : StandsBy T facts G
  pub changes : StepsHaveFewChanges T facts G
  pub constraints : ConstraintsHaveOwnAtoms T facts G

abbrev pub WhatIsPutTogetherStands : Task → NumberedTask → Statics → List GroundAtom → Type 0
WhatIsPutTogetherStands T X S atoms = (G : GroundTask) → IsPutTogether T X S atoms G → StandsWithLittle T (facts_of X.numbers atoms) G

-- ---- steps at choices of objects

abbrev pub step_of : Numbers → Action → Slots → Step
step_of N action slots = record { action = action.name.name; args = object_names N slots }

-- the choice of objects of that number for the parameters of the action
abbrev pub choice_of : Numbers → Action → ℕ → Slots
choice_of N action number = choice N (ranges_of N action.params) number

-- how many steps the actions before the place have
abbrev pub steps_before : Numbers → Task → ℕ → ℕ
steps_before N T place = sum (take place (map (λ (action : Action). choice_count N (ranges_of N action.params)) T.domain.actions))

-- the step has its number behind those of the actions before, and is that of the action at the choice
pub record IsAtChoice (T : Task) (N : Numbers) (place : ℕ) (action : Action) (number : ℕ) : Type 0 where
  pub has : HasNumber T (step_of N action (choice_of N action number)) (steps_before N T place + number)
  pub at : IsStepAt T N action (choice_of N action number) (step_of N action (choice_of N action number))

abbrev pub StepsAreAtChoices : Type 0
StepsAreAtChoices = (T : Task) (X : NumberedTask) (place number : ℕ) (action : Action) → WellFormed T → IsNumberedTask T X → slice_get T.domain.actions place ≡ Some action → number < choice_count X.numbers (ranges_of X.numbers action.params)
    → IsAtChoice T X.numbers place action number
