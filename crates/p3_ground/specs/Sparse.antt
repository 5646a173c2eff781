-- What it is that a ground task has little beside what it needs: few changes, few atoms in its constraints, and no step that plainly never fits.
use Rattle.std.specs.Prelude.{ℕ, ◌≤◌, Bool, true, false, not, ◌||◌, List, length, map, slice_get, count_by, Contains, IsTrue}
use Rattle.std.specs.List.{All, AllZip, list_all}
use Rattle.std.specs.Option.{option_map_or}
use Rattle.p3_task.specs.States.{has_fact, start}
use Rattle.p3_task.specs.Constraints.{HardModal, Instance, hard_list, instances, operators}
use Rattle.p3_task.specs.Literals.{Literal}
use Rattle.p3_task.specs.Static.{is_static}
use Rattle.p3_task.specs.StepNumbers.{HasNumber}
use Rattle.p3_task.specs.declared.state.Fact.{Fact}
use Rattle.p3_task.specs.declared.task.Step.{Step}
use Rattle.p3_task.specs.declared.task.Task.{Task}
use Rattle.p3_formula.specs.Forms.{State}
use Rattle.p3_formula.specs.Modals.{modal_has}
use Rattle.p3_formula.specs.Simplified.{is_value}
use Rattle.p3_formula.specs.declared.form.Change.{Change}
use Rattle.p3_formula.specs.GroundModal.{GroundModal}
use Rattle.p3_formula.specs.declared.modal.GroundSoft.{GroundSoft}
use Rattle.p3_formula.specs.declared.task.GroundStep.{GroundStep}
use Rattle.p3_formula.specs.declared.task.GroundTask.{GroundTask}
use Rattle.p3_reach.specs.May.{may_hold}
use Rattle.p3_reach.specs.Closed.{IsClosed}
use Rattle.p3_ground.specs.StandsFor.{LeavesOutOnlyUnfit, StandsBy, StandsForSteps}
use Rattle.p3_task.specs.Mentions.{operator_atoms, step_literals, is_under_when, step_conjuncts}

-- the atom of that number is one of those
abbrev pub is_atom_of : List Fact → List Fact → ℕ → Bool
is_atom_of atoms those number = option_map_or (λ fact. has_fact those fact) (slice_get atoms number) false

-- ---- changes

-- the change may not happen
abbrev pub is_conditional : Change → Bool
is_conditional change = not (is_value true change.cond)

-- each change is of the atom of a literal of the step, and there are no more changes than literals, nor more under conditions than literals under `when`
pub record HasFewChanges (T : Task) (atoms : List Fact) (step : Step) (changes : List Change) : Type 0 where
  pub own : IsTrue (list_all (λ (change : Change). is_atom_of atoms (map (λ (literal : Literal). literal.fact) (step_literals T step)) change.atom) changes)
  pub all : length changes ≤ length (step_literals T step)
  pub conditional : count_by is_conditional changes ≤ count_by is_under_when (step_literals T step)

-- ---- constraints

-- each atom of the operator is one that its formulas mention
abbrev pub HasOwnAtoms : Task → List Fact → HardModal → GroundModal → Type 0
HasOwnAtoms T atoms operator made = IsTrue (modal_has (is_atom_of atoms (operator_atoms T operator)) made)

abbrev pub PartsHaveOwnAtoms : Task → List Fact → Instance → GroundSoft → Type 0
PartsHaveOwnAtoms T atoms instance made = AllZip (HasOwnAtoms T atoms) (operators T instance.env instance.body) made.parts

pub record ConstraintsHaveOwnAtoms (T : Task) (atoms : List Fact) (G : GroundTask) : Type 0 where
  pub hard : AllZip (HasOwnAtoms T atoms) (hard_list T) G.hard
  pub soft : AllZip (PartsHaveOwnAtoms T atoms) (instances T) G.soft

-- ---- steps that never fit

-- some effect names its predicate, or it is true at the start
abbrev pub is_possible : Task → Fact → Bool
is_possible T fact = not (is_static T fact.name) || has_fact (start T) fact

-- each atom that `and` alone joins in the precondition of the step is possible
abbrev pub HasPossibleConjuncts : Task → Step → Type 0
HasPossibleConjuncts T step = IsTrue (list_all (is_possible T) (step_conjuncts T step))

-- over every closed set of atoms the precondition of each step may hold
abbrev pub MayFit : GroundTask → Type 0
MayFit G = (set : State) → IsClosed G set → All (λ (made : GroundStep). IsTrue (may_hold set made.pre)) G.steps

-- ---- ground tasks

-- it is so for the step of the number that the kept step has
pub record AtItsStep (T : Task) (Says : Step → GroundStep → Type 0) (made : GroundStep) : Type 0 where
  pub step : Step
  pub number : HasNumber T step made.number
  pub says : Says step made

abbrev pub StepsHaveFewChanges : Task → List Fact → GroundTask → Type 0
StepsHaveFewChanges T atoms G = All (AtItsStep T (λ step made. HasFewChanges T atoms step made.effects)) G.steps

abbrev pub StepsHavePossibleConjuncts : Task → GroundTask → Type 0
StepsHavePossibleConjuncts T G = All (AtItsStep T (λ step made. HasPossibleConjuncts T step)) G.steps

-- the ground task is sparse, where its atoms are these
pub record Sparse (T : Task) (atoms : List Fact) (G : GroundTask) : Type 0 where
  pub changes : StepsHaveFewChanges T atoms G
  pub constraints : ConstraintsHaveOwnAtoms T atoms G
  pub conjuncts : StepsHavePossibleConjuncts T G
  pub may_fit : MayFit G

-- ---- what grounding promises

pub record IsGroundingOf (T : Task) (G : GroundTask) : Type 0 where
  pub atoms : List Fact
  pub stands : StandsBy T atoms G
  pub left_out : LeavesOutOnlyUnfit T G
  pub sparse : Sparse T atoms G

-- of the steps of some numbers: it has no other steps, few changes, few atoms in its constraints, and only possible atoms in what its steps want
pub record IsGroundingAmong (T : Task) (numbers : List ℕ) (G : GroundTask) : Type 0 where
  pub stands : StandsForSteps T G numbers
  pub only : All (λ (made : GroundStep). Contains numbers made.number) G.steps
  pub changes : StepsHaveFewChanges T stands.0.atoms G
  pub constraints : ConstraintsHaveOwnAtoms T stands.0.atoms G
  pub conjuncts : StepsHavePossibleConjuncts T G
