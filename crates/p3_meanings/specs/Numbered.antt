-- The names that are told are those of a written task, by their numbers: each operator is watched by as many atoms as its monitor has, in the same order, and the chain has an atom for each instance of a preference, and one more.
use Rattle.std.specs.Prelude.{◌≡◌, ◌+◌, length}
use Rattle.std.specs.List.{AllZip}
use Rattle.p3_task.specs.Constraints.{HardModal, Instance, hard_list, instances, operators}
use Rattle.p3_task.specs.declared.task.Task.{Task}
use Rattle.p3_formula.specs.GroundModal.{GroundModal}
use Rattle.p3_formula.specs.Kept.{atom_count}
use Rattle.p3_formula.specs.declared.modal.GroundSoft.{GroundSoft}
use Rattle.p3_formula.specs.declared.task.GroundTask.{GroundTask}
use Rattle.p3_ground.specs.Sparse.{IsGroundingOf}
use Rattle.p3_accounts.specs.Operators.{kind_of}
use Rattle.p3_unmet.specs.Sources.{Texts}
use Rattle.p3_meanings.specs.Chains.{settling_said}
use Rattle.p3_meanings.specs.Monitors.{watch_count}

-- as many atoms as the monitor of the ground operator has
abbrev pub IsWatchedBy : HardModal → GroundModal → Type 0
IsWatchedBy hard made = watch_count (kind_of hard.modal) ≡ atom_count made

abbrev pub ArePartsWatched : Task → Instance → GroundSoft → Type 0
ArePartsWatched T instance soft = AllZip IsWatchedBy (operators T instance.env instance.body) soft.parts

-- of a task and a ground task that stands for it
pub record AreNumbered (T : Task) (G : GroundTask) : Type 0 where
  pub hard : AllZip IsWatchedBy (hard_list T) G.hard
  pub soft : AllZip (ArePartsWatched T) (instances T) G.soft
  pub chain : (texts : Texts) → length (settling_said texts T) ≡ length G.soft + 1

abbrev pub NamesAreNumbered : Type 0
NamesAreNumbered = (T : Task) (G : GroundTask) → IsGroundingOf T G → AreNumbered T G
