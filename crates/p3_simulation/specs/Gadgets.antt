-- What the actions of a step do: from open bits, where the running atom alone is set behind the sources and the monitors' atoms, one list of them leads to open bits again.
use Rattle.std.specs.Prelude.{◌≡◌, ◌≢◌, ◌⊎◌, ℕ, ◌+◌, ◌<◌, ◌≤◌, true, false, List, [], ◌∷◌, ◌++◌, length, sum_by, Option, Some, None, Contains, is_some, flat_map}
use Rattle.p3_base.specs.Limits.{width_limit}
use Rattle.p3_formula.specs.Forms.{State, is_set, truth}
use Rattle.p3_formula.specs.Next.{after}
use Rattle.p3_base.specs.Copies.{extra_of}
use Rattle.p3_formula.specs.Weighted.{weighted, weighted_cost}
use Rattle.p3_formula.specs.declared.form.Change.{Change}
use Rattle.p3_formula.specs.declared.form.Form.{Form}
use Rattle.p3_formula.specs.declared.target.TargetAction.{TargetAction}
use Rattle.p3_formula.specs.declared.target.Weights.{Weights}
use Rattle.p3_formula.specs.declared.task.GroundStep.{GroundStep}
use Rattle.p3_precprefs.specs.Copies.{violation}
use Rattle.p3_monitors.specs.Riders.{AreRiders}
use Rattle.p3_monitors.specs.declared.monitoring.Monitor.{Monitor}
use Rattle.p3_simulation.specs.Monitoring.{IsGuardedPre}

-- the running atom, the first question atom, and how many bits there are
module _ (go first size : ℕ) where
  pub record IsOpen (bits : State) : Type 0 where
    pub room : length bits ≡ size
    pub running : is_set bits go ≡ true
    pub clear : (atom : ℕ) → go < atom → is_set bits atom ≡ false

  pub record IsAsking (current : ℕ) (bits : State) : Type 0 where
    pub room : length bits ≡ size
    pub stopped : is_set bits go ≡ false
    pub behind : first + width_limit < current
    pub asked : is_set bits current ≡ true
    pub question : ℕ
    pub within : question ≤ width_limit
    pub asks : is_set bits (first + question) ≡ true
    pub clear : (atom : ℕ) → go < atom → atom ≢ current → atom ≢ first + question → is_set bits atom ≡ false

  -- actions in the middle of a step, and then open bits
  pub data Turns (current : ℕ) (actions : List TargetAction) : State → List TargetAction → State → Type 0 where
    Back : (bits : State) → IsOpen bits → Turns current actions bits [] bits
    On : (bits : State) (action : TargetAction) (plan : List TargetAction) (later : State) → IsAsking current bits → Contains actions action → truth bits action.pre ≡ true
        → Turns current actions (after bits action.effects) plan later → Turns current actions bits (action ∷ plan) later

  pub record Turn (weights : Weights) (step : GroundStep) (effects : List Change) (current : ℕ) (actions : List TargetAction) (bits : State) : Type 0 where
    pub begin : TargetAction
    pub rest : List TargetAction
    pub later : State
    pub own : Contains actions begin
    pub fits : truth bits begin.pre ≡ true
    pub turns : Turns current actions (after bits begin.effects) rest later
    -- below the running atom the bits are those after the effects
    pub same : (atom : ℕ) → atom < go → is_set later atom ≡ is_set (after bits effects) atom
    pub costs : begin.cost + sum_by (λ (action : TargetAction). action.cost) rest ≡ weighted_cost weights step + sum_by (violation bits weights.by_name) (weighted weights.by_name step.prefs)
    pub count : length rest ≡ extra_of (length (weighted weights.by_name step.prefs))

  -- from open bits an action fits exactly where the precondition holds
  pub record IsGadget (counted : TargetAction → Option ℕ) (weights : Weights) (step : GroundStep) (pre : Form) (effects : List Change) (current : ℕ) (actions : List TargetAction) : Type 0 where
    pub guarded : (bits : State) (action : TargetAction) → Contains actions action → truth bits action.pre ≡ true → (is_set bits go ≡ true) ⊎ (is_set bits current ≡ true)
    pub open_one : (bits : State) → IsOpen bits → (one other : TargetAction) → Contains actions one → Contains actions other → truth bits one.pre ≡ true → truth bits other.pre ≡ true → one ≡ other
    pub open_fits : (bits : State) → IsOpen bits → (action : TargetAction) → Contains actions action → truth bits action.pre ≡ true → truth bits pre ≡ true
    pub open_counts : (bits : State) → IsOpen bits → (action : TargetAction) → Contains actions action → truth bits action.pre ≡ true → counted action ≡ Some step.number
    pub open_next : (bits : State) → IsOpen bits → (action : TargetAction) → Contains actions action → truth bits action.pre ≡ true → IsOpen (after bits action.effects) ⊎ IsAsking current (after bits action.effects)
    pub amid_one : (bits : State) → IsAsking current bits → (one other : TargetAction) → Contains actions one → Contains actions other → truth bits one.pre ≡ true → truth bits other.pre ≡ true → one ≡ other
    pub amid_counts : (bits : State) → IsAsking current bits → (action : TargetAction) → Contains actions action → truth bits action.pre ≡ true → counted action ≡ None
    pub amid_next : (bits : State) → IsAsking current bits → (action : TargetAction) → Contains actions action → truth bits action.pre ≡ true → IsOpen (after bits action.effects) ⊎ IsAsking current (after bits action.effects)
    pub turn : (bits : State) → IsOpen bits → truth bits pre ≡ true → Turn weights step effects current actions bits

  -- the current atom of a wide step is the next one; a narrow step has none, which the running atom stands for
  pub data Owns (from : ℕ) : ℕ → ℕ → Type 0 where
    Narrow : Owns from go from
    Wide : Owns from from (from + 1)

  pub record IsStepGadget (counted : TargetAction → Option ℕ) (weights : Weights) (sources : ℕ) (hard monitors : List Monitor) (step : GroundStep) (current : ℕ) (actions : List TargetAction) : Type 0 where
    pub changes : List (List Change)
    pub riders : AreRiders sources sources step.effects monitors changes
    pub pre : Form
    pub guarded : IsGuardedPre go hard step pre
    pub gadget : IsGadget counted weights step pre (step.effects ++ flat_map (λ effects. effects) changes) current actions

  -- the actions of all steps, one step after another, whose current atoms stand from a number on up to another; a step without a cost has none
  pub data AreGadgets (counted : TargetAction → Option ℕ) (weights : Weights) (sources : ℕ) (hard monitors : List Monitor) : ℕ → ℕ → List GroundStep → List TargetAction → Type 0 where
    NoSteps : (from : ℕ) → AreGadgets counted weights sources hard monitors from from [] []
    Costless : (from to : ℕ) (step : GroundStep) (steps : List GroundStep) (rest : List TargetAction) → is_some step.cost ≡ false → AreGadgets counted weights sources hard monitors from to steps rest → AreGadgets counted weights sources hard monitors from to (step ∷ steps) rest
    OneStep : (from current next to : ℕ) (step : GroundStep) (steps : List GroundStep) (actions rest : List TargetAction) → is_some step.cost ≡ true → Owns from current next
        → IsStepGadget counted weights sources hard monitors step current actions → AreGadgets counted weights sources hard monitors next to steps rest → AreGadgets counted weights sources hard monitors from to (step ∷ steps) (actions ++ rest)

-- the steps stand by rising number
abbrev pub AreRising : ℕ → List GroundStep → Type 0
AreRising low [] = Unit {0}
AreRising low (step ∷ steps) = (low ≤ step.number) × AreRising (step.number + 1) steps
