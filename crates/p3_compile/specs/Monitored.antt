-- The monitors of some constraints stand behind others, and so do the names of their atoms.
use Rattle.std.specs.Prelude.{◌≡◌, ℕ, ◌+◌, ◌-◌, List, [], ◌++◌, flat_map, length, sum_by, codes}
use Rattle.std.specs.List.{All}
use Rattle.p3_base.specs.Words.{Name}
use Rattle.p3_formula.specs.Forms.{State}
use Rattle.p3_formula.specs.Kept.{atom_count}
use Rattle.p3_formula.specs.Modals.{IsModalBelow}
use Rattle.p3_formula.specs.GroundModal.{GroundModal}
use Rattle.p3_formula.specs.declared.modal.GroundSoft.{GroundSoft}
use Rattle.p3_formula.specs.declared.task.GroundTask.{GroundTask}
use Rattle.p3_monitors.specs.declared.monitoring.Monitor.{Monitor}
use Rattle.p3_simulation.specs.Naming.{all_numbered}
use Rattle.p3_simulation.specs.Monitoring.{AreMonitors, IsMonitor}

abbrev pub AreModalsBelow : ℕ → List GroundModal → Type 0
AreModalsBelow count modals = All (IsModalBelow count) modals

abbrev pub AreSoftBelow : ℕ → List GroundSoft → Type 0
AreSoftBelow count softs = All (λ (soft : GroundSoft). AreModalsBelow count soft.parts) softs

-- the parts of the soft constraints
abbrev pub soft_modals : List GroundSoft → List GroundModal
soft_modals soft = flat_map (λ (one : GroundSoft). one.parts) soft

-- how many atoms the monitors of some constraints have
abbrev pub monitor_atoms : List GroundModal → ℕ
monitor_atoms modals = sum_by atom_count modals

-- the names, and so many more of that letter, whose numbers are their places behind those that come before
abbrev pub named_more : Name → ℕ → List Name → ℕ → List Name
named_more letter before names count = names ++ all_numbered letter (length names - before) count

-- the monitor of the constraint, and the names of its atoms
pub record HasMonitor (start : State) (modal : GroundModal) (old new : List Name) (monitor : Monitor) : Type 0 where
  pub is : IsMonitor start (length old) modal monitor
  pub names : new ≡ named_more (codes "m") (length start) old (atom_count modal)

-- the monitors of the constraints stand behind the others
pub record HasMonitors (start : State) (modals : List GroundModal) (old new : List Name) (before after : List Monitor) : Type 0 where
  pub monitors : List Monitor
  pub are : after ≡ before ++ monitors
  pub made : AreMonitors start (length old) (length old + monitor_atoms modals) modals monitors
  pub names : new ≡ named_more (codes "m") (length start) old (monitor_atoms modals)

-- the monitors of all constraints of the task: those of the hard ones, and then those of the parts of the soft ones
pub record IsWatched (G : GroundTask) (old new : List Name) (monitors : List Monitor) : Type 0 where
  pub between : List Name
  pub front : List Monitor
  pub hard : HasMonitors G.initial G.hard old between [] front
  pub soft : HasMonitors G.initial (soft_modals G.soft) between new front monitors
