-- What the body of a ground compiler shows of a target: names, truth of preconditions, effects and costs of its actions.
use Rattle.std.specs.Prelude.{◌≡◌, ℕ, ◌+◌, ◌-◌, ◌^◌, ◌<◌, ◌≤◌, Bool, true, false, ◌&&◌, List, [], ◌∷◌, ◌++◌, length, is_some, take, drop}
use Rattle.std.specs.List.{All, list_all}
use Rattle.p3_base.specs.Copies.{copy_name}
use Rattle.p3_formula.specs.Forms.{State, truth, IsBelow}
use Rattle.p3_formula.specs.Guards.{IsGuardedForm}
use Rattle.p3_formula.specs.Next.{after}
use Rattle.p3_formula.specs.Targets.{has_change_atoms}
use Rattle.p3_formula.specs.Weighted.{width_of}
use Rattle.p3_formula.specs.declared.form.Change.{Change}
use Rattle.p3_formula.specs.declared.form.Form.{Form}
use Rattle.p3_formula.specs.declared.modal.GroundPref.{GroundPref}
use Rattle.p3_formula.specs.declared.target.Target.{Target}
use Rattle.p3_formula.specs.declared.target.TargetAction.{TargetAction}
use Rattle.p3_formula.specs.declared.target.Weights.{Weights}
use Rattle.p3_formula.specs.declared.task.GroundStep.{GroundStep}
use Rattle.p3_formula.specs.declared.task.GroundTask.{GroundTask}
use Rattle.p3_endphase.specs.Ends.{AreBelow, IsEndPhase}
use Rattle.p3_endphase.specs.declared.phase.EndPhase.{EndPhase}
use Rattle.p3_endphase.specs.declared.phase.SoftEnd.{SoftEnd}
use Rattle.p3_monitors.specs.declared.monitoring.Monitor.{Monitor}
use Rattle.p3_precprefs.specs.Copies.{HasOneCopy, HasAtomsIn, IsSublist, fitting, patterns, violated_lists}
use Rattle.p3_precprefs.specs.Questions.{IsChain}
use Rattle.p3_precprefs.specs.declared.copies.StepCopy.{StepCopy}
use Rattle.p3_simulation.specs.Naming.{atom_names, pattern, wide_steps}
use Rattle.p3_simulation.specs.Monitoring.{all_modals, AreMonitors, AreSoftEnds, IsEffects, IsGuardedPre, all_accept, initial_bits}

-- ---- the actions of a step

-- the action of a copy fits where the running atom is set and the copy fits
pub record IsCopyAction (go number : ℕ) (effects : List Change) (copy : StepCopy) (action : TargetAction) : Type 0 where
  pub named : action.name ≡ copy_name number (pattern copy.violated)
  pub pre : IsGuardedForm (go ∷ []) copy.pre action.pre
  -- where the copy fits, its changes do what those of the step do; they have no other atoms
  pub does : (state : State) → truth state copy.pre ≡ true → after state action.effects ≡ after state effects
  pub atoms : (allowed : ℕ → Bool) → list_all (has_change_atoms allowed) effects ≡ true → list_all (has_change_atoms allowed) action.effects ≡ true
  pub costs : action.cost ≡ copy.cost

abbrev pub AreCopyActions : ℕ → ℕ → List Change → List StepCopy → List TargetAction → Type 0
AreCopyActions go number effects [] [] = Unit {0}
AreCopyActions go number effects (copy ∷ copies) (action ∷ actions) = IsCopyAction go number effects copy action × AreCopyActions go number effects copies actions
AreCopyActions go number effects [] (action ∷ actions) = ⊥
AreCopyActions go number effects (copy ∷ copies) [] = ⊥

-- the copies of a step under that precondition are as `split_under` makes them, each with its action
pub record IsSplit (go : ℕ) (weights : Weights) (step : GroundStep) (pre : Form) (effects : List Change) (actions : List TargetAction) : Type 0 where
  pub copies : List StepCopy
  pub one_copy : (state : State) → truth state pre ≡ true → HasOneCopy weights step copies state
  pub no_copy : (state : State) → truth state pre ≡ false → fitting state copies ≡ []
  pub shown : IsSublist (violated_lists copies) (patterns (width_of weights.by_name step))
  pub atoms : (allowed : ℕ → Bool) → HasAtomsIn allowed pre → All (λ (pref : GroundPref). HasAtomsIn allowed pref.body) step.prefs → All (λ (copy : StepCopy). HasAtomsIn allowed copy.pre) copies
  pub are : AreCopyActions go step.number effects copies actions

-- the actions of one step: none without a cost, those of its copies, under a precondition that may guard hard constraints, or its chain, whose current atom is the next one
pub data AreOfStep (go first : ℕ) (weights : Weights) (hard monitors : List Monitor) (from : ℕ) : ℕ → GroundStep → List TargetAction → Type 0 where
  Costless : (step : GroundStep) → is_some step.cost ≡ false → AreOfStep go first weights hard monitors from from step []
  Narrow : (step : GroundStep) (pre : Form) (effects : List Change) (actions : List TargetAction) → is_some step.cost ≡ true → width_of weights.by_name step ≤ 8
      → IsEffects go monitors step effects → IsGuardedPre go hard step pre → IsSplit go weights step pre effects actions → AreOfStep go first weights hard monitors from from step actions
  Wide : (step : GroundStep) (effects : List Change) (actions : List TargetAction) → is_some step.cost ≡ true → 8 < width_of weights.by_name step
      → IsEffects go monitors step effects → IsChain go first from weights step effects actions → AreOfStep go first weights hard monitors from (from + 1) step actions

-- the actions of the steps in order, whose current atoms stand from a number on up to another
pub data AreOfSteps (go first : ℕ) (weights : Weights) (hard monitors : List Monitor) : ℕ → ℕ → List GroundStep → List TargetAction → Type 0 where
  NoSteps : (from : ℕ) → AreOfSteps go first weights hard monitors from from [] []
  OneStep : (from next to : ℕ) (step : GroundStep) (steps : List GroundStep) (own actions : List TargetAction) → AreOfStep go first weights hard monitors from next step own
      → AreOfSteps go first weights hard monitors next to steps actions → AreOfSteps go first weights hard monitors from to (step ∷ steps) (own ++ actions)

-- ---- the whole

pub record Assembly : Type 0 where
  -- the monitors of the hard constraints, and then of the parts of the soft ones
  pub monitors : List Monitor
  -- the running atom, the first question atom, and the end of the current atoms
  pub go : ℕ
  pub first : ℕ
  pub last : ℕ
  -- the actions of the steps
  pub actions : List TargetAction
  -- the end phase, the form of what must hold before it, and what is settled in it
  pub phase : EndPhase
  pub finish : Form
  pub instances : List SoftEnd

pub record IsAssembled (G : GroundTask) (weights : Weights) (X : Target) (made : Assembly) : Type 0 where
  -- the layout
  pub questions : made.first ≡ made.go + (length G.soft + 2)
  pub names : X.predicates ≡ atom_names G.atoms (made.go - G.atoms) (length G.soft + 1) (wide_steps weights.by_name G.steps)
  pub room : length X.predicates < 2 ^ 64
  pub numbers : G.step_count < 2 ^ 32
  -- the monitors
  pub monitors : AreMonitors G.initial G.atoms made.go (all_modals G) made.monitors
  pub idle : ℕ
  pub initial : X.initial ≡ initial_bits G.initial made.monitors idle
  pub bits : length X.initial ≡ length X.predicates
  -- the actions and the goal
  pub steps : AreOfSteps made.go made.first weights (take (length G.hard) made.monitors) made.monitors (made.first + 201) made.last G.steps made.actions
  pub actions : X.actions ≡ made.actions ++ made.phase.actions
  pub goal : X.goal ≡ made.phase.goal
  -- the end
  pub accepts : (state : State) → truth state made.finish ≡ (truth state G.goal && all_accept state (take (length G.hard) made.monitors))
  pub finish : IsBelow made.go made.finish
  pub ends : AreSoftEnds weights.by_name G.soft (drop (length G.hard) made.monitors) made.instances
  pub instances : AreBelow made.go made.instances
  pub phase : IsEndPhase made.finish made.instances made.go made.phase

-- the target has names, order, preconditions, changes and costs as the layout has them
abbrev pub HasAssembly : GroundTask → Weights → Target → Type 0
HasAssembly G weights X = (made : Assembly) × IsAssembled G weights X made
