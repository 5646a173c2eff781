-- The constraints of a whole task, as ground operators and instances.
use Rattle.std.specs.Prelude.{◌≡◌, List, [], ◌++◌, flat_map, map}
use Rattle.std.specs.List.{AllZip}
use Rattle.p3_task.specs.Constraints.{hard_list, instances}
use Rattle.p3_task.specs.Offences.{WellFormed}
use Rattle.p3_task.specs.declared.task.Task.{Task}
use Rattle.p3_formula.specs.GroundModal.{GroundModal}
use Rattle.p3_formula.specs.declared.modal.GroundSoft.{GroundSoft}
use Rattle.p3_numbers.specs.Constraints.{PlacedModal, PlacedInstance, InstanceMeaning, hard_operators, soft_instances, hard_modal_meaning, instance_meaning}
use Rattle.p3_numbers.specs.Goals.{preferences}
use Rattle.p3_numbers.specs.Tasks.{IsNumberedTask}
use Rattle.p3_numbers.specs.declared.numbers.Numbers.{Numbers}
use Rattle.p3_numbers.specs.declared.task.NumberedTask.{NumberedTask}
use Rattle.p3_expansion.specs.Atoms.{GroundAtom}
use Rattle.p3_expansion.specs.Instances.{at_end, instance_atoms, InstancesStand}
use Rattle.p3_expansion.specs.Expansions.{Grows}
use Rattle.p3_expansion.specs.Operators.{operator_atoms, HasTruths, OperatorsStand}
use Rattle.p3_expansion.specs.declared.statics.Statics.{Statics}
use Rattle.p3_expansion.specs.declared.work.Work.{Work}

-- ---- hard constraints

-- the operators outside preferences, those of the domain first
abbrev pub task_operators : NumberedTask → List PlacedModal
task_operators X = hard_operators X.numbers [] X.domain_constraints ++ hard_operators X.numbers [] X.problem_constraints

-- entry by entry, the same operator whose forms hold where the task's formulas do
abbrev pub HardHave : Task → Numbers → Statics → List GroundAtom → List GroundModal → Type 0
HardHave T N S atoms made = AllZip (HasTruths N S atoms) (map (hard_modal_meaning T) (hard_list T)) made

-- the hard constraints of the task, among the atoms and nodes that came
pub record MakesHard (X : NumberedTask) (S : Statics) (old new : Work) (made : List GroundModal) : Type 0 where
  pub grows : Grows (flat_map (operator_atoms X.numbers) (task_operators X)) old new
  pub stand : OperatorsStand X.numbers S new.atoms (task_operators X) made
  pub named : (T : Task) → WellFormed T → IsNumberedTask T X → HardHave T X.numbers S new.atoms made

-- ---- preferences

-- those of the domain, and those of the problem: of its constraints, and then of the goal
abbrev pub task_instances : NumberedTask → List PlacedInstance
task_instances X = soft_instances X.numbers X.domain_constraints [] ++ (soft_instances X.numbers X.problem_constraints [] ++ map at_end (preferences X.numbers [] X.goal))

-- the number of the name, and the operators
pub record HasInstance (N : Numbers) (S : Statics) (atoms : List GroundAtom) (meant : InstanceMeaning) (made : GroundSoft) : Type 0 where
  pub name : made.name ≡ meant.number
  pub parts : AllZip (HasTruths N S atoms) meant.operators made.parts

-- entry by entry
abbrev pub SoftHave : Task → Numbers → Statics → List GroundAtom → List GroundSoft → Type 0
SoftHave T N S atoms made = AllZip (HasInstance N S atoms) (map (instance_meaning T N) (instances T)) made

-- the preferences over the visited states, among the atoms and nodes that came
pub record MakesSoft (X : NumberedTask) (S : Statics) (old new : Work) (made : List GroundSoft) : Type 0 where
  pub grows : Grows (flat_map (instance_atoms X.numbers) (task_instances X)) old new
  pub stand : InstancesStand X.numbers S new.atoms (task_instances X) made
  pub named : (T : Task) → WellFormed T → IsNumberedTask T X → SoftHave T X.numbers S new.atoms made
