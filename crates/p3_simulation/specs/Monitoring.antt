-- The monitors of a target, one behind another, what they add to a step's changes and its precondition, and what they make of the end.
use Rattle.std.specs.Prelude.{◌≡◌, ℕ, ◌+◌, Bool, true, false, ◌&&◌, List, [], ◌∷◌, ◌++◌, flat_map, length, map, replicate}
use Rattle.std.specs.List.{list_all}
use Rattle.p3_formula.specs.Forms.{State, truth, IsBelow}
use Rattle.p3_formula.specs.Kept.{Carries, Kept, atom_count}
use Rattle.p3_formula.specs.Lasting.{stays_broken}
use Rattle.p3_formula.specs.Modals.{touches}
use Rattle.p3_formula.specs.Next.{after}
use Rattle.p3_formula.specs.Targets.{is_sized_change}
use Rattle.p3_formula.specs.Weighted.{named_weight}
use Rattle.p3_formula.specs.declared.form.Change.{Change}
use Rattle.p3_formula.specs.declared.form.Form.{Form}
use Rattle.p3_formula.specs.declared.form.Form.TheVariants.{True}
use Rattle.p3_formula.specs.GroundModal.{GroundModal}
use Rattle.p3_formula.specs.declared.modal.GroundSoft.{GroundSoft}
use Rattle.p3_formula.specs.declared.task.GroundStep.{GroundStep}
use Rattle.p3_formula.specs.declared.task.GroundTask.{GroundTask}
use Rattle.p3_endphase.specs.declared.phase.SoftEnd.{SoftEnd}
use Rattle.p3_monitors.specs.Guards.{IsGuard}
use Rattle.p3_monitors.specs.KeepsOn.{AreOwn, KeepsOn}
use Rattle.p3_monitors.specs.declared.monitoring.Monitor.{Monitor}

-- ---- monitors

-- the constraints of a task: the hard ones, and then the parts of the soft ones
abbrev pub all_modals : GroundTask → List GroundModal
all_modals G = G.hard ++ flat_map (λ (soft : GroundSoft). soft.parts) G.soft

-- the monitor of the constraint, with its atoms from a number on, whose initial bits are right
pub record IsMonitor (initial : State) (from : ℕ) (modal : GroundModal) (monitor : Monitor) : Type 0 where
  pub base : monitor.base ≡ from
  pub watches : monitor.modal ≡ modal
  pub entries : length monitor.initial ≡ atom_count modal
  pub starts : (state : State) → Carries from monitor.initial modal initial state → Kept from modal (initial ∷ []) state

-- one for each constraint, with their atoms from a number on up to another
abbrev pub AreMonitors : State → ℕ → ℕ → List GroundModal → List Monitor → Type 0
AreMonitors initial from to [] [] = from ≡ to
AreMonitors initial from to (modal ∷ modals) (monitor ∷ monitors) = IsMonitor initial from modal monitor × AreMonitors initial (from + atom_count modal) to modals monitors
AreMonitors initial from to [] (monitor ∷ monitors) = ⊥
AreMonitors initial from to (modal ∷ modals) [] = ⊥

-- the initial state: that of the task, the monitors' bits, the running atom, and atoms that are not set
abbrev pub initial_bits : State → List Monitor → ℕ → State
initial_bits initial monitors idle = initial ++ (flat_map (λ (monitor : Monitor). monitor.initial) monitors ++ true ∷ replicate idle false)

-- ---- the changes of a step

-- the changes of the monitors that the changes of a step touch, in their order
pub data AreUpdates (step : List Change) : List Monitor → List Change → Type 0 where
  NoMore : AreUpdates step [] []
  Untouched : (monitor : Monitor) (monitors : List Monitor) (updates : List Change) → touches monitor.modal step ≡ false → AreUpdates step monitors updates → AreUpdates step (monitor ∷ monitors) updates
  Touched : (monitor : Monitor) (monitors : List Monitor) (own updates : List Change) → AreOwn monitor.base monitor.modal own → KeepsOn monitor.base monitor.modal step own
      → AreUpdates step monitors updates → AreUpdates step (monitor ∷ monitors) (own ++ updates)

-- in states in which the step's precondition holds, the changes of its actions do what those of the step and of the monitors do; all their atoms are below a number
pub record IsEffects (go : ℕ) (monitors : List Monitor) (step : GroundStep) (effects : List Change) : Type 0 where
  pub updates : List Change
  pub watched : AreUpdates step.effects monitors updates
  pub does : (state : State) → truth state step.pre ≡ true → after state effects ≡ after state (step.effects ++ updates)
  pub below : list_all (is_sized_change go) effects ≡ true

-- ---- the precondition of a step

-- the guards of some of the monitors, in their order: each holds where the changes do not break its constraint for good, and is True for one that can come right again
pub data AreGuards (step : List Change) : List Monitor → List Form → Type 0 where
  NoGuards : AreGuards step [] []
  Unguarded : (monitor : Monitor) (monitors : List Monitor) (guards : List Form) → AreGuards step monitors guards → AreGuards step (monitor ∷ monitors) guards
  Guarded : (monitor : Monitor) (monitors : List Monitor) (guard : Form) (guards : List Form) → IsGuard monitor.base monitor.modal step guard → (stays_broken monitor.modal ≡ false → guard ≡ True)
      → AreGuards step monitors guards → AreGuards step (monitor ∷ monitors) (guard ∷ guards)

-- the precondition of a step's actions: its own one, and the guards of some hard constraints; its atoms are below a number
pub record IsGuardedPre (go : ℕ) (hard : List Monitor) (step : GroundStep) (pre : Form) : Type 0 where
  pub guards : List Form
  pub are : AreGuards step.effects hard guards
  pub holds : (state : State) → truth state pre ≡ (truth state step.pre && list_all (truth state) guards)
  pub below : IsBelow go pre

-- ---- the end

abbrev pub all_accept : State → List Monitor → Bool
all_accept state monitors = list_all (λ (monitor : Monitor). truth state monitor.accept) monitors

abbrev pub modals : List Monitor → List GroundModal
modals monitors = map (λ (monitor : Monitor). monitor.modal) monitors

-- the instance is accepted where the monitors of its parts accept, and has the weight of its name
pub record IsSoftEnd (by_name : List ℕ) (soft : GroundSoft) (monitors : List Monitor) (instance : SoftEnd) : Type 0 where
  pub parts : modals monitors ≡ soft.parts
  pub accepts : (state : State) → truth state instance.accept ≡ all_accept state monitors
  pub weighs : instance.weight ≡ named_weight by_name soft.name

-- the instances in order, each with as many monitors as it has parts
pub data AreSoftEnds (by_name : List ℕ) : List GroundSoft → List Monitor → List SoftEnd → Type 0 where
  NoneLeft : AreSoftEnds by_name [] [] []
  OneMore : (soft : GroundSoft) (softs : List GroundSoft) (own monitors : List Monitor) (instance : SoftEnd) (instances : List SoftEnd)
      → IsSoftEnd by_name soft own instance → AreSoftEnds by_name softs monitors instances → AreSoftEnds by_name (soft ∷ softs) (own ++ monitors) (instance ∷ instances)
