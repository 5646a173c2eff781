-- How a target is put together.
use Rattle.std.specs.Prelude.{◌≡◌, ℕ, ◌+◌, ◌-◌, ◌^◌, ◌≤◌, ◌<◌, ◌&&◌, List, [], ◌∷◌, ◌++◌, length, get_or, take, drop, codes, IsTrue}
use Rattle.std.specs.List.{list_all}
use Rattle.std.specs.List.Sorted.{IsPermutation}
use Rattle.p3_base.specs.Limits.{instance_limit}
use Rattle.p3_base.specs.Words.{Name}
use Rattle.p3_formula.specs.Conditions.{HasAtomsBelow, HasTidyForms}
use Rattle.p3_formula.specs.Forms.{State, truth, IsBelow}
use Rattle.p3_formula.specs.Targets.{Compiled, is_sized_action}
use Rattle.p3_formula.specs.declared.form.Form.{Form}
use Rattle.p3_formula.specs.declared.form.Form.TheVariants.{Atom, True}
use Rattle.p3_formula.specs.declared.target.Target.{Target}
use Rattle.p3_formula.specs.declared.target.TargetAction.{TargetAction}
use Rattle.p3_formula.specs.declared.target.Weights.{Weights}
use Rattle.p3_formula.specs.declared.task.GroundTask.{GroundTask}
use Rattle.p3_endphase.specs.Ends.{AreActions, AreBelow, Settles}
use Rattle.p3_endphase.specs.declared.phase.SoftEnd.{SoftEnd}
use Rattle.p3_simulation.specs.Assembled.{HasAssembly}
use Rattle.p3_simulation.specs.Naming.{all_numbered, question_names, wide_steps}
use Rattle.p3_simulation.specs.Monitoring.{AreMonitors, AreSoftEnds, all_accept, all_modals, initial_bits}
use Rattle.p3_compile.specs.Lean.{IsLean}
use Rattle.p3_regress.specs.Readers.{AreRising}
use Rattle.p3_compile.specs.Readers.{AreByAtom, readers_of}
use Rattle.p3_compile.specs.Stepping.{current_names}
use Rattle.p3_compile.specs.declared.begun.BegunTarget.{BegunTarget}
use Rattle.p3_compile.specs.declared.stepping.Frame.{Frame}

-- ---- a task and its goal

-- the task that has that goal in the place of its own
abbrev pub with_goal : Form → GroundTask → GroundTask
with_goal goal G = record {
  atoms = G.atoms;
  initial = G.initial;
  initial_cost = G.initial_cost;
  step_count = G.step_count;
  steps = G.steps;
  goal = goal;
  hard = G.hard;
  soft = G.soft;
  names = G.names;
}

-- what is left of a task whose goal is taken
abbrev pub without_goal : GroundTask → GroundTask
without_goal G = with_goal True G

-- ---- the layout

-- what is asked of a task so that its atoms and those of its monitors can be named
pub record IsReadyTask (G : GroundTask) : Type 0 where
  pub atoms : HasAtomsBelow G
  pub bits : length G.initial ≡ G.atoms
  pub few : length G.soft ≤ instance_limit

-- the names of all atoms but those of wide steps, where the running atom has that number
abbrev pub first_names : GroundTask → ℕ → List Name
first_names G go = all_numbered (codes "f") 0 G.atoms ++ (all_numbered (codes "m") 0 (go - G.atoms) ++ (codes "go" ∷ all_numbered (codes "e") 0 (length G.soft + 1)))

-- the monitors of the constraints of the task stand one behind another, those of the hard ones first, and the running atom and the chain behind them
pub record IsFrameOf (G : GroundTask) (frame : Frame) : Type 0 where
  pub monitors : AreMonitors G.initial G.atoms frame.go (all_modals G) frame.monitors
  pub hard : frame.hard ≡ length G.hard
  pub read : IsPermutation (readers_of frame.monitors) frame.readers.items
  pub rising : AreRising frame.readers.items
  pub by_atom : AreByAtom frame.monitors frame.by_atom.items
  pub questions : frame.first ≡ frame.go + (length G.soft + 2)
  pub room : frame.first < 2 ^ 64

pub record IsFramed (G : GroundTask) (names : List Name) (frame : Frame) : Type 0 where
  pub is : IsFrameOf G frame
  pub named : names ≡ first_names G frame.go
  pub counted : length names ≡ frame.first

-- ---- the end

-- how the end phase begins, by what must hold before it, what is settled in it, and the goal
pub record IsEnding (G : GroundTask) (weights : Weights) (frame : Frame) (begin : List TargetAction) (instances : List SoftEnd) (goal : Form) : Type 0 where
  pub finish : Form
  pub accepts : (state : State) → truth state finish ≡ (truth state G.goal && all_accept state (take (length G.hard) frame.monitors))
  pub below : IsBelow frame.go finish
  pub ends : AreSoftEnds weights.by_name G.soft (drop (length G.hard) frame.monitors) instances
  pub accept_below : AreBelow frame.go instances
  pub counted : length instances ≡ length G.soft
  pub begins : AreActions frame.go finish [] begin
  pub reached : goal ≡ Atom (frame.go + (1 + length instances))

-- ---- the whole

-- all of the target but the actions of the steps
pub record IsBegun (G : GroundTask) (weights : Weights) (begun : BegunTarget) : Type 0 where
  pub frame_is : IsFrameOf G begun.frame
  pub named : begun.names ≡ first_names G begun.frame.go ++ question_names (wide_steps weights.by_name G.steps) ++ current_names weights.by_name G.steps
  pub counted : length (first_names G begun.frame.go) ≡ begun.frame.first
  pub current_is : begun.current ≡ begun.frame.first + length (question_names (wide_steps weights.by_name G.steps))
  pub initial_is : begun.initial ≡ initial_bits G.initial begun.frame.monitors (length begun.names - begun.frame.go - 1)
  pub ends : IsEnding G weights begun.frame begun.begin begun.instances begun.goal
  pub room : length begun.names < 2 ^ 64
  pub steps : G.step_count < 2 ^ 32

-- the actions with which its end phase begins, and behind them those that settle the first so many instances
pub record AreEnds (begun : BegunTarget) (count : ℕ) (ends : List TargetAction) : Type 0 where
  pub settling : List TargetAction
  pub settles : Settles begun.frame.go 0 (take count begun.instances) settling
  pub are : ends ≡ begun.begin ++ settling

-- the atoms of its end phase are numbers, and have names
pub record HasNamedEnds (begun : BegunTarget) : Type 0 where
  pub room : begun.frame.go + length begun.instances + 2 ≤ 2 ^ 64 - 1
  pub begin : IsTrue (list_all (is_sized_action (length begun.names)) begun.begin)
  pub settling : (number : ℕ) (instance : SoftEnd) (actions : List TargetAction) → number < length begun.instances → Settles begun.frame.go number (get_or begun.instances number instance ∷ []) actions
      → IsTrue (list_all (is_sized_action (length begun.names)) actions)

-- the actions of the steps, and behind them those of the end phase
abbrev pub target_of : BegunTarget → List TargetAction → List TargetAction → Target
target_of begun actions ends = record { predicates = begun.names; initial = begun.initial; actions = actions ++ ends; goal = begun.goal }

-- the whole target, where those are the actions of the steps
pub record HasEnds (begun : BegunTarget) (actions : List TargetAction) (X : Target) : Type 0 where
  pub ends : List TargetAction
  pub are : AreEnds begun (length begun.instances) ends
  pub is : X ≡ target_of begun actions ends

-- what is promised of the target to which a task is compiled
pub record IsCompiledTo (G : GroundTask) (weights : Weights) (X : Target) : Type 0 where
  pub compiled : Compiled G weights X
  pub tidy : HasTidyForms X
  pub lean : IsLean G weights X
  pub assembled : HasAssembly G weights X
