-- What a target is made of, so that it is a compiled task.
use Rattle.std.specs.Prelude.{◌≡◌, ℕ, ◌+◌, ◌≤◌, Bool, true, false, not, ◌&&◌, List, [], ◌∷◌, ◌++◌, length, take, sum_by, Option, None, Contains, if◌then◌else◌}
use Rattle.std.specs.List.{list_all}
use Rattle.p3_formula.specs.Forms.{State, truth, IsBelow}
use Rattle.p3_formula.specs.Next.{after}
use Rattle.p3_formula.specs.GroundSat.{ground_sat}
use Rattle.p3_formula.specs.GroundPlans.{last_of}
use Rattle.p3_formula.specs.Weighted.{named_weight}
use Rattle.p3_formula.specs.Targets.{lifted_number}
use Rattle.p3_formula.specs.declared.form.Form.{Form}
use Rattle.p3_formula.specs.declared.modal.GroundPref.{GroundPref}
use Rattle.p3_formula.specs.declared.modal.GroundSoft.{GroundSoft}
use Rattle.p3_formula.specs.declared.target.Target.{Target}
use Rattle.p3_formula.specs.declared.target.TargetAction.{TargetAction}
use Rattle.p3_formula.specs.declared.target.Weights.{Weights}
use Rattle.p3_formula.specs.declared.task.GroundStep.{GroundStep}
use Rattle.p3_formula.specs.declared.task.GroundTask.{GroundTask}
use Rattle.p3_endphase.specs.declared.phase.EndPhase.{EndPhase}
use Rattle.p3_endphase.specs.declared.phase.SoftEnd.{SoftEnd}
use Rattle.p3_endphase.specs.Ends.{IsEndPhase, IsSingleAt, Ends, violation, HasOneEnd}
use Rattle.p3_formula.specs.Modals.{IsModalBelow}
use Rattle.p3_formula.specs.Kept.{atom_count}
use Rattle.p3_monitors.specs.Riders.{AreKept}
use Rattle.p3_formula.specs.Alike.{AgreeBelow, AreConditionsBelow}
use Rattle.p3_monitors.specs.declared.monitoring.Monitor.{Monitor}
use Rattle.p3_simulation.specs.Gadgets.{IsOpen, AreGadgets, AreRising}
use Rattle.p3_simulation.specs.Monitoring.{modals}

-- the step as which an action counts
abbrev pub counted : GroundTask → TargetAction → Option ℕ
counted G action = lifted_number G action.name

module _ (by_name : List ℕ) where
  abbrev pub weigh : Bool → Option ℕ → ℕ
  weigh bad name = if bad then named_weight by_name name else 0

module _ (G : GroundTask) (weights : Weights) where
  -- what is asked at the end of a plan that visits those states
  abbrev pub may_end : List State → Bool
  may_end W = truth (last_of W) G.goal && list_all (ground_sat W) G.hard

  abbrev pub is_bad : List State → GroundSoft → Bool
  is_bad W soft = not (list_all (ground_sat W) soft.parts)

  abbrev pub end_loss : List State → ℕ
  end_loss W = sum_by (λ (soft : GroundSoft). weigh weights.by_name (is_bad W soft) soft.name) G.soft

-- the monitors' own atoms are below the number, and their constraints have source atoms alone
abbrev pub AreBefore : ℕ → ℕ → List Monitor → Type 0
AreBefore sources bound [] = Unit {0}
AreBefore sources bound (monitor ∷ monitors) = IsModalBelow sources monitor.modal × (monitor.base + atom_count monitor.modal ≤ bound) × AreBefore sources bound monitors

module _ (G : GroundTask) (weights : Weights) (X : Target) (monitors : List Monitor) (go first last size : ℕ) (all : List TargetAction) (phase : EndPhase) (finish : Form) (instances : List SoftEnd) where
  abbrev pub of_phase : TargetAction → Type 0
  of_phase action = Contains phase.actions action

  -- what the parts are, of which the target is made
  pub record IsMade : Type 0 where
    pub inside : G.atoms ≤ go
    pub before : AreBefore G.atoms go monitors
    pub chain : first ≡ go + phase.atoms
    pub room : first ≤ size
    pub actions : X.actions ≡ all ++ phase.actions
    pub goal : X.goal ≡ phase.goal
    -- the first monitors are those of the hard constraints
    pub hard : modals (take (length G.hard) monitors) ≡ G.hard
    pub gadgets : AreGadgets go first size (counted G) weights G.atoms (take (length G.hard) monitors) monitors (first + 201) last G.steps all
    pub rising : AreRising 0 G.steps
    pub begins : IsOpen go first size X.initial
    pub sources : AgreeBelow G.atoms X.initial G.initial
    pub source_bits : length G.initial ≡ G.atoms
    pub kept : AreKept monitors (G.initial ∷ []) X.initial
    pub conditions : (step : GroundStep) → Contains G.steps step → AreConditionsBelow G.atoms step.effects
    pub preconditions : (step : GroundStep) → Contains G.steps step → IsBelow G.atoms step.pre
    pub bodies : (step : GroundStep) → Contains G.steps step → (pref : GroundPref) → Contains step.prefs pref → IsBelow G.atoms pref.body
    pub phase_is : IsEndPhase finish instances go phase
    pub one_end : (bits : State) → IsSingleAt go phase.atoms 0 bits → truth bits finish ≡ true → HasOneEnd phase instances bits
    pub no_end : (bits : State) → IsSingleAt go phase.atoms 0 bits → truth bits finish ≡ false → (plan : List TargetAction) → Ends phase bits plan → ⊥
    pub one_fits : (bits : State) (place : ℕ) → IsSingleAt go phase.atoms place bits → (one other : TargetAction) → of_phase one → of_phase other → truth bits one.pre ≡ true → truth bits other.pre ≡ true → one ≡ other
    pub moves_on : (bits : State) (place : ℕ) → IsSingleAt go phase.atoms place bits → (action : TargetAction) → of_phase action → truth bits action.pre ≡ true → IsSingleAt go phase.atoms (place + 1) (after bits action.effects)
    pub uncounted : (action : TargetAction) → of_phase action → counted G action ≡ None
    pub may_finish : (W : List State) (bits : State) → AreKept monitors W bits → AgreeBelow G.atoms bits (last_of W) → truth bits finish ≡ may_end G weights W
    pub settled : (W : List State) (bits : State) → AreKept monitors W bits → AgreeBelow G.atoms bits (last_of W) → violation bits instances ≡ end_loss G weights W
    pub instance_count : length instances ≡ length G.soft

-- ---- the parts as one

pub record Parts : Type 0 where
  pub monitors : List Monitor
  -- the running atom, the first and the last atom of the questions and current steps, and how many atoms there are
  pub go : ℕ
  pub first : ℕ
  pub last : ℕ
  pub size : ℕ
  -- the actions of the steps
  pub actions : List TargetAction
  -- the end phase, the form of what must hold before it, and what is settled in it
  pub phase : EndPhase
  pub finish : Form
  pub instances : List SoftEnd

abbrev pub IsMadeOf : GroundTask → Weights → Target → Parts → Type 0
IsMadeOf G weights X parts = IsMade G weights X parts.monitors parts.go parts.first parts.last parts.size parts.actions parts.phase parts.finish parts.instances
