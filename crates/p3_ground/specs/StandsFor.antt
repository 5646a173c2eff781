-- What it is that a ground task stands for a task: its atoms are ground atoms of the task, and its forms have the truth of the task's formulas in every state that fitting steps reach.
use Rattle.std.specs.Prelude.{◌≡◌, ℕ, Bool, false, List, [], length, slice_get, position, Option, Some, None, option_and_then, IsTrue}
use Rattle.std.specs.List.{All, AllZip}
use Rattle.p3_task.specs.Names.{same_name, Name}
use Rattle.p3_task.specs.States.{State, Environment, has_fact, start}
use Rattle.p3_task.specs.Formulas.{holds}
use Rattle.p3_task.specs.Goals.{StatePref, hard_holds}
use Rattle.p3_task.specs.Costs.{initial_cost}
use Rattle.p3_task.specs.Plans.{Reached, action_named, arguments, state_after, step_cost}
use Rattle.p3_task.specs.Constraints.{HardModal, Instance, hard_list, instances, operators}
use Rattle.p3_task.specs.Metrics.{step_prefs}
use Rattle.p3_task.specs.Lifting.{steps}
use Rattle.p3_task.specs.PreferenceNames.{ordered_names}
use Rattle.p3_task.specs.StepNumbers.{HasNumber}
use Rattle.p3_task.specs.declared.state.Fact.{Fact}
use Rattle.p3_task.specs.declared.formula.Formula.{Formula}
use Rattle.p3_task.specs.Modal.{Modal}
use Rattle.p3_base.specs.Operators.{Pairs}
use Rattle.p3_task.specs.declared.task.Action.{Action}
use Rattle.p3_task.specs.declared.task.Step.{Step}
use Rattle.p3_task.specs.declared.task.Task.{Task}
use Rattle.p3_formula.specs.Forms as forms
use Rattle.p3_formula.specs.Forms.{is_set, truth}
use Rattle.p3_formula.specs.Next.{after}
use Rattle.p3_formula.specs.GroundPlans.{step_of}
use Rattle.p3_formula.specs.Conditions.{HasAtomsBelow, rises}
use Rattle.p3_formula.specs.declared.form.Form.{Form}
use Rattle.p3_formula.specs.declared.form.Change.{Change}
use Rattle.p3_formula.specs.GroundModal.{GroundModal}
use Rattle.p3_formula.specs.declared.modal.GroundPref.{GroundPref}
use Rattle.p3_formula.specs.declared.modal.GroundSoft.{GroundSoft}
use Rattle.p3_formula.specs.declared.task.GroundStep.{GroundStep}
use Rattle.p3_formula.specs.declared.task.GroundTask.{GroundTask}

-- ---- states and bits

-- there are as many bits as atoms, and a bit is set where its atom is in the state
pub record Matched (atoms : List Fact) (s : State) (bits : forms.State) : Type 0 where
  pub count : length bits ≡ length atoms
  pub atom : (place : ℕ) (fact : Fact) → slice_get atoms place ≡ Some fact → is_set bits place ≡ has_fact s fact

-- no atom stands at two places
abbrev pub AreDifferent : List Fact → Type 0
AreDifferent atoms = (first second : ℕ) (fact : Fact) → slice_get atoms first ≡ Some fact → slice_get atoms second ≡ Some fact → first ≡ second

-- in every reached state the form has the truth that the test tells of the state
abbrev pub HasTruthOf : Task → List Fact → (State → Bool) → Form → Type 0
HasTruthOf T atoms test form = (s : State) (bits : forms.State) → Reached T s → Matched atoms s bits → truth bits form ≡ test s

-- ---- entry by entry

abbrev pub FormStands : Task → List Fact → Environment → Formula → Form → Type 0
FormStands T atoms env formula form = HasTruthOf T atoms (λ s. holds T s env formula) form

abbrev pub ModalStands : Task → List Fact → Environment → Modal → GroundModal → Type 0
ModalStands T atoms env modal made = Pairs (FormStands T atoms env) modal made

abbrev pub HardStands : Task → List Fact → HardModal → GroundModal → Type 0
HardStands T atoms hard made = ModalStands T atoms hard.env hard.modal made

-- the number of a preference name is its place in the order of the text
abbrev pub number_of_name : Task → Option Name → Option ℕ
number_of_name T name = option_and_then (λ word. position (same_name word) (ordered_names T)) name

pub record PrefStands (T : Task) (atoms : List Fact) (pref : StatePref) (made : GroundPref) : Type 0 where
  pub name : made.name ≡ number_of_name T pref.name
  pub body : FormStands T atoms pref.env pref.body made.body

pub record SoftStands (T : Task) (atoms : List Fact) (instance : Instance) (made : GroundSoft) : Type 0 where
  pub name : made.name ≡ number_of_name T instance.name
  pub parts : AllZip (HardStands T atoms) (operators T instance.env instance.body) made.parts

-- ---- steps

abbrev pub can_begin_by : Task → State → Step → Option Action → Bool
can_begin_by T s step None = false
can_begin_by T s step (Some action) = hard_holds T s (arguments action step) action.pre.body

-- the hard precondition of the step holds
abbrev pub can_begin : Task → State → Step → Bool
can_begin T s step = can_begin_by T s step (action_named T step.action)

-- in every reached state the changes make what the step makes
abbrev pub ChangesStand : Task → List Fact → Step → List Change → Type 0
ChangesStand T atoms step changes = (s : State) (bits : forms.State) → Reached T s → Matched atoms s bits → Matched atoms (state_after T s step) (after bits changes)

-- what is made of a step
pub record IsMadeOf (T : Task) (atoms : List Fact) (step : Step) (made : GroundStep) : Type 0 where
  pub pre : HasTruthOf T atoms (λ s. can_begin T s step) made.pre
  pub prefs : AllZip (PrefStands T atoms) (step_prefs T step) made.prefs
  pub effects : ChangesStand T atoms step made.effects
  pub cost : made.cost ≡ step_cost T step

-- a kept step stands for the step of its number
pub record StepStands (T : Task) (atoms : List Fact) (made : GroundStep) : Type 0 where
  pub step : Step
  pub number : HasNumber T step made.number
  pub is : IsMadeOf T atoms step made

-- where the step of the number is left out, it can begin in no reached state
abbrev pub LeftOutAt : Task → GroundTask → ℕ → Type 0
LeftOutAt T G number = (step : Step) → HasNumber T step number → step_of G number ≡ None → (s : State) → Reached T s → can_begin T s step ≡ false

-- a step that is left out can begin in no reached state
abbrev pub LeavesOutOnlyUnfit : Task → GroundTask → Type 0
LeavesOutOnlyUnfit T G = (number : ℕ) → LeftOutAt T G number

-- the step has the number, and is there or can begin in no reached state
abbrev pub IsAsked : Task → GroundTask → Step → ℕ → Type 0
IsAsked T G step number = HasNumber T step number × LeftOutAt T G number

-- ---- ground tasks

-- all but the steps that are left out stands for the task, where the atoms are these
pub record StandsBy (T : Task) (atoms : List Fact) (G : GroundTask) : Type 0 where
  pub count : G.atoms ≡ length atoms
  pub different : AreDifferent atoms
  pub below : HasAtomsBelow G
  pub initial : Matched atoms (start T) G.initial
  pub initial_cost : G.initial_cost ≡ initial_cost T
  pub step_count : G.step_count ≡ length (steps T)
  pub rising : IsTrue (rises 0 G.step_count G.steps)
  pub kept : All (StepStands T atoms) G.steps
  pub goal : HasTruthOf T atoms (λ s. hard_holds T s [] T.problem.goal.body) G.goal
  pub hard : AllZip (HardStands T atoms) (hard_list T) G.hard
  pub soft : AllZip (SoftStands T atoms) (instances T) G.soft
  pub name_count : G.names ≡ length (ordered_names T)

-- the ground task stands for the task
pub record StandsFor (T : Task) (G : GroundTask) : Type 0 where
  pub atoms : List Fact
  pub stands : StandsBy T atoms G
  pub left_out : LeavesOutOnlyUnfit T G

-- it stands for the task in the steps that it has
pub record StandsIn (T : Task) (G : GroundTask) : Type 0 where
  pub atoms : List Fact
  pub stands : StandsBy T atoms G

-- it stands for the task in the steps of these numbers
abbrev pub StandsForSteps : Task → GroundTask → List ℕ → Type 0
StandsForSteps T G numbers = StandsIn T G × All (LeftOutAt T G) numbers
