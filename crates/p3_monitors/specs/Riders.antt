-- Several monitors that ride on one step.
use Rattle.std.specs.Prelude.{◌≡◌, ℕ, ◌+◌, ◌≤◌, nat_lt, false, List, [], ◌∷◌, ◌++◌, flat_map}
use Rattle.p3_formula.specs.Forms.{State}
use Rattle.p3_formula.specs.Alike.{AgreeBelow}
use Rattle.p3_formula.specs.Next.{after}
use Rattle.p3_formula.specs.declared.form.Change.{Change}
use Rattle.p3_formula.specs.Kept.{Kept, is_own, atom_count}
use Rattle.p3_formula.specs.Modals.{IsModalBelow, touches}
use Rattle.p3_monitors.specs.KeepsOn.{KeepsOn, HasNone, AreOwn}
use Rattle.p3_monitors.specs.declared.monitoring.Monitor.{Monitor}

-- the constraint has only source atoms, of which there are so many, the monitor's own atoms stand from a number on, and the changes are of these and keep it on
pub record IsRider (sources from : ℕ) (step : List Change) (monitor : Monitor) (effects : List Change) : Type 0 where
  pub below : IsModalBelow sources monitor.modal
  pub behind : from ≤ monitor.base
  pub own : AreOwn monitor.base monitor.modal effects
  pub keeps : KeepsOn monitor.base monitor.modal step effects

-- a monitor that a step does not touch is a rider with no changes
abbrev pub RidesUntouched : Type 0
RidesUntouched =
    (sources from : ℕ) (step : List Change) (monitor : Monitor) → IsModalBelow sources monitor.modal → from ≤ monitor.base → touches monitor.modal step ≡ false
    → HasNone (is_own monitor.base monitor.modal) step → IsRider sources from step monitor []

-- each monitor with its changes; the atoms of each stand behind those of the ones before it
abbrev pub AreRiders : ℕ → ℕ → List Change → List Monitor → List (List Change) → Type 0
AreRiders sources from step [] [] = Unit {0}
AreRiders sources from step (monitor ∷ monitors) (effects ∷ changes) = IsRider sources from step monitor effects × AreRiders sources (monitor.base + atom_count monitor.modal) step monitors changes
AreRiders sources from step [] (effects ∷ changes) = ⊥
AreRiders sources from step (monitor ∷ monitors) [] = ⊥

abbrev pub AreKept : List Monitor → List State → State → Type 0
AreKept [] W state = Unit {0}
AreKept (monitor ∷ monitors) W state = Kept monitor.base monitor.modal W state × AreKept monitors W state

-- no change is of an atom of one of the monitors
abbrev pub AreBeside : List Monitor → List Change → Type 0
AreBeside [] others = Unit {0}
AreBeside (monitor ∷ monitors) others = HasNone (is_own monitor.base monitor.modal) others × AreBeside monitors others

-- the state after the changes of a step, of the monitors and of others, made at once
abbrev pub after_all : State → List Change → List (List Change) → List Change → State
after_all state step changes others = after state (step ++ (flat_map (λ effects. effects) changes ++ others))

-- all monitors are kept over one state more, and source atoms are as after the step alone
pub record IsRidden (sources : ℕ) (monitors : List Monitor) (W : List State) (next later reached : State) : Type 0 where
  pub kept : AreKept monitors (W ++ next ∷ []) reached
  pub sources_stay : AgreeBelow sources reached later

-- so it is, where other changes are of no source atom and of no monitor's
abbrev pub RideTogether : Type 0
RideTogether =
    (sources from : ℕ) (step others : List Change) (monitors : List Monitor) (changes : List (List Change)) (W : List State) (state next : State) → sources ≤ from → AreRiders sources from step monitors changes
    → HasNone (λ atom. nat_lt atom sources) others → AreBeside monitors others → AreKept monitors W state → AgreeBelow sources (after state step) next
    → IsRidden sources monitors W next (after state step) (after_all state step changes others)
