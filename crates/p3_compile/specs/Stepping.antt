-- The actions of the steps, one step after another.
use Rattle.std.specs.Prelude.{◌≡◌, ℕ, ◌+◌, ◌^◌, ◌<◌, ◌≤◌, true, List, [], ◌∷◌, length, map, take, IsTrue}
use Rattle.std.specs.List.{All, list_all}
use Rattle.std.specs.List.Sorted.{IsPermutation}
use Rattle.p3_base.specs.Words.{Name}
use Rattle.p3_formula.specs.Conditions.{IsWithinLimits, is_step_below, is_tidy_action, width_limit}
use Rattle.p3_formula.specs.Targets.{is_sized_action}
use Rattle.p3_formula.specs.Weighted.{AreNamedBelow}
use Rattle.p3_formula.specs.declared.form.Form.TheVariants.{True}
use Rattle.p3_formula.specs.declared.target.TargetAction.{TargetAction}
use Rattle.p3_formula.specs.declared.target.Weights.{Weights}
use Rattle.p3_formula.specs.declared.task.GroundStep.{GroundStep}
use Rattle.p3_monitors.specs.declared.monitoring.Monitor.{Monitor}
use Rattle.p3_simulation.specs.Assembled.{AreOfStep, AreOfSteps}
use Rattle.p3_simulation.specs.Naming.{current_name, is_wide, wide_steps}
use Rattle.p3_simulation.specs.Parts.{AreBefore}
use Rattle.p3_regress.specs.Readers.{AreRising}
use Rattle.p3_compile.specs.Readers.{AreByAtom, readers_of}
use Rattle.p3_compile.specs.Lean.{IsOfSteps, IsStepAction}
use Rattle.p3_compile.specs.Updated.{AreApart, busy_count}
use Rattle.p3_compile.specs.declared.begun.BegunTarget.{BegunTarget}
use Rattle.p3_compile.specs.declared.stepping.Frame.{Frame}

-- the monitors of the hard constraints, which are the first ones
abbrev pub hard_monitors : Frame → List Monitor
hard_monitors frame = take frame.hard frame.monitors

-- the monitors' atoms stand before the running atom, and the readers are those of the monitors, whose forms are there by atom
pub record IsFrame (frame : Frame) : Type 0 where
  pub questions : frame.go < frame.first
  pub before : AreBefore frame.go frame.go frame.monitors
  pub hard : frame.hard ≤ length frame.monitors
  pub read : IsPermutation (readers_of frame.monitors) frame.readers.items
  pub rising : AreRising frame.readers.items
  pub by_atom : AreByAtom frame.monitors frame.by_atom.items

-- what is asked of a step: its atoms are other ones than the running atom and those of the monitors
pub record IsStepReady (frame : Frame) (weights : Weights) (step : GroundStep) : Type 0 where
  pub below : is_step_below frame.go step ≡ true
  pub apart : AreApart frame.monitors step.effects
  pub names : AreNamedBelow (length weights.by_name) step.prefs
  pub limits : IsWithinLimits weights step

-- what is left of a step whose precondition and changes are taken
abbrev pub bare : GroundStep → GroundStep
bare step = record { number = step.number; pre = True; prefs = step.prefs; effects = []; cost = step.cost }

-- ---- the actions of one step

-- the names of the current atoms of the steps
abbrev pub current_names : List ℕ → List GroundStep → List Name
current_names by_name steps = map current_name (wide_steps by_name steps)

-- where a step is wide, its current atom is the next one
abbrev pub HasCurrentAtom : ℕ → Weights → GroundStep → ℕ → Type 0
HasCurrentAtom from weights step current = is_wide weights.by_name step ≡ true → from ≡ current

-- where a step is wide, its current atom stands behind the question atoms, and there is a number behind it
abbrev pub HasRoom : Frame → Weights → GroundStep → ℕ → Type 0
HasRoom frame weights step current = is_wide weights.by_name step ≡ true → (frame.first + width_limit < current) × (current + 1 < 2 ^ 64)

-- how many monitors the step keeps busy
abbrev pub busy_in : Frame → GroundStep → ℕ
busy_in frame step = busy_count step.effects frame.monitors

-- tidy actions of the step, with few changes, and the next current atom
pub record HasActions (frame : Frame) (weights : Weights) (step : GroundStep) (old new : ℕ) (actions : List TargetAction) : Type 0 where
  pub next : new ≡ old + length (wide_steps weights.by_name (step ∷ []))
  pub are : (from : ℕ) → HasCurrentAtom from weights step old → AreOfStep frame.go frame.first weights (hard_monitors frame) frame.monitors from (from + length (wide_steps weights.by_name (step ∷ []))) step actions
  pub tidy : list_all is_tidy_action actions ≡ true
  pub lean : All (IsStepAction weights.by_name (busy_in frame step) step) actions

-- ---- the actions of all steps

pub record HasStepActions (frame : Frame) (weights : Weights) (steps : List GroundStep) (actions : List TargetAction) : Type 0 where
  pub are : AreOfSteps frame.go frame.first weights (hard_monitors frame) frame.monitors (frame.first + 201) (frame.first + 201 + length (wide_steps weights.by_name steps)) steps actions
  pub tidy : list_all is_tidy_action actions ≡ true
  pub lean : All (IsOfSteps weights.by_name (busy_in frame) steps) actions

-- the actions of some steps, whose current atoms stand from a number on, and the next current atom
pub record AreMade (frame : Frame) (weights : Weights) (steps : List GroundStep) (first current : ℕ) (actions : List TargetAction) : Type 0 where
  pub next : current ≡ first + length (wide_steps weights.by_name steps)
  pub has : HasStepActions frame weights steps actions

-- ---- a begun target

-- the step may be the next one, where that is the next current atom
pub record IsNextStep (begun : BegunTarget) (weights : Weights) (step : GroundStep) (current : ℕ) : Type 0 where
  pub frame_is : IsFrame begun.frame
  pub ready : IsStepReady begun.frame weights step
  pub room : begun.frame.first ≤ length begun.names
  pub small : length begun.names < 2 ^ 64
  pub own : is_wide weights.by_name step ≡ true → (begun.frame.first + width_limit < current) × (current < length begun.names)

-- its actions, whose atoms have names
pub record HasNextActions (begun : BegunTarget) (weights : Weights) (step : GroundStep) (old new : ℕ) (actions : List TargetAction) : Type 0 where
  pub has : HasActions begun.frame weights step old new actions
  pub sized : IsTrue (list_all (is_sized_action (length begun.names)) actions)
