-- The changes of the monitors that a step touches.
use Rattle.std.specs.Prelude.{◌≡◌, ℕ, ◌*◌, ◌<◌, ◌≤◌, Bool, true, false, List, ◌++◌, length, count_by, slice_index_or, Contains, IsTrue}
use Rattle.std.specs.List.{All, list_all}
use Rattle.std.specs.List.Sorted.{IsNonDecreasing}
use Rattle.p3_formula.specs.Forms.{State, truth}
use Rattle.p3_formula.specs.Kept.{is_own}
use Rattle.p3_formula.specs.Next.{after}
use Rattle.p3_formula.specs.Simplified.{is_value}
use Rattle.p3_formula.specs.Targets.{has_change_atoms, is_sized_change}
use Rattle.p3_formula.specs.Tidy.{is_tidy}
use Rattle.p3_formula.specs.declared.form.Change.{Change}
use Rattle.p3_formula.specs.declared.form.Form.{Form}
use Rattle.p3_formula.specs.declared.target.TargetAction.{TargetAction}
use Rattle.p3_monitors.specs.KeepsOn.{HasNone, HasConditions, AreOwn, KeepsOn}
use Rattle.p3_monitors.specs.declared.monitoring.Monitor.{Monitor}
use Rattle.p3_precprefs.specs.declared.copies.StepCopy.{StepCopy}
use Rattle.p3_simulation.specs.Parts.{AreBefore}
use Rattle.p3_simulation.specs.Monitoring.{AreUpdates}
use Rattle.p3_compile.specs.Lean.{is_busy, is_conditional}

-- the changes are of no monitor's own atoms
abbrev pub AreApart : List Monitor → List Change → Type 0
AreApart monitors step = All (λ (monitor : Monitor). HasNone (is_own monitor.base monitor.modal) step) monitors

abbrev pub busy_count : List Change → List Monitor → ℕ
busy_count step monitors = count_by (λ (monitor : Monitor). is_busy step monitor.modal) monitors

-- the places are those of the busy monitors, and rise
pub record AreTouched (step : List Change) (monitors : List Monitor) (places : List ℕ) : Type 0 where
  pub rising : IsNonDecreasing places
  pub within : All (λ place. place < length monitors) places
  pub busy : (place : ℕ) (monitor : Monitor) → Contains places place → is_busy step (slice_index_or monitors place monitor).modal ≡ true
  pub all : (place : ℕ) (monitor : Monitor) → place < length monitors → is_busy step (slice_index_or monitors place monitor).modal ≡ true → Contains places place

-- the changes of one monitor stand behind the others
pub record HasUpdate (step : List Change) (monitor : Monitor) (old new : List Change) : Type 0 where
  pub updates : List Change
  pub own : AreOwn monitor.base monitor.modal updates
  pub keeps : KeepsOn monitor.base monitor.modal step updates
  pub few : length updates ≤ 2
  pub reads : HasConditions monitor.base monitor.modal step updates
  pub are : new ≡ old ++ updates

-- the changes are of the monitors' own atoms, and have no other atoms than these and those of the constraints and of the step
pub record HasOwnAtoms (step : List Change) (monitors : List Monitor) (updates : List Change) : Type 0 where
  pub inside : (sources bound : ℕ) → sources ≤ bound → AreBefore sources bound monitors → list_all (is_sized_change sources) step ≡ true → list_all (is_sized_change bound) updates ≡ true

-- so for those of all monitors that the step touches, at most two for each
pub record HasUpdates (step : List Change) (monitors : List Monitor) (old new : List Change) : Type 0 where
  pub updates : List Change
  pub watched : AreUpdates step monitors updates
  pub few : length updates ≤ 2 * busy_count step monitors
  pub atoms : HasOwnAtoms step monitors updates
  pub are : new ≡ old ++ updates

-- the changes of the step and of the monitors that it touches
pub record HasMade (step : List Change) (monitors : List Monitor) (changes : List Change) : Type 0 where
  pub updates : List Change
  pub watched : AreUpdates step monitors updates
  pub few : length updates ≤ 2 * busy_count step monitors
  pub atoms : HasOwnAtoms step monitors updates
  pub are : changes ≡ step ++ updates

-- the conditions of the changes are tidy
abbrev pub HasTidyConditions : List Change → Type 0
HasTidyConditions effects = IsTrue (list_all (λ (change : Change). is_tidy change.cond) effects)

-- the condition of the change is not the constant that never holds
abbrev pub MayHappen : Change → Type 0
MayHappen change = is_value false change.cond ≡ false

-- changes that do the same where the precondition holds: they are no more, no more of them have a condition, and they have no other atoms
pub record AreSimpler (pre : Form) (old new : List Change) : Type 0 where
  pub does : (state : State) → truth state pre ≡ true → after state new ≡ after state old
  pub fewer : length new ≤ length old
  pub conditional : count_by is_conditional new ≤ count_by is_conditional old
  pub atoms : (allowed : ℕ → Bool) → list_all (has_change_atoms allowed) old ≡ true → list_all (has_change_atoms allowed) new ≡ true

-- the action has tidy changes that may happen, which are no more than those, and of which no more have a condition
pub record HasSimpler (effects : List Change) (action : TargetAction) : Type 0 where
  pub tidy : HasTidyConditions action.effects
  pub possible : All MayHappen action.effects
  pub fewer : length action.effects ≤ length effects
  pub conditional : count_by is_conditional action.effects ≤ count_by is_conditional effects

-- the precondition of the copy is tidy, and not the constant that never holds
pub record IsSimpleCopy (copy : StepCopy) : Type 0 where
  pub tidy : IsTrue (is_tidy copy.pre)
  pub possible : is_value false copy.pre ≡ false

-- what the changes of the step and of the monitors that it touches become where it fits
pub record HasChanges (pre : Form) (step : List Change) (monitors : List Monitor) (changes : List Change) : Type 0 where
  pub updates : List Change
  pub watched : AreUpdates step monitors updates
  pub few : length updates ≤ 2 * busy_count step monitors
  pub atoms : HasOwnAtoms step monitors updates
  pub simpler : AreSimpler pre (step ++ updates) changes
