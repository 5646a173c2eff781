-- What a run keeps of the steps done.
use Rattle.std.specs.Prelude.{◌≡◌, ℕ, ◌^◌, ◌<◌, ◌≤◌, true, List, length}
use Rattle.std.specs.List.{All}
use Rattle.p3_formula.specs.Forms.{State}
use Rattle.p3_formula.specs.GroundPlans.{GroundPlan, ground_visited, ground_cost}
use Rattle.p3_formula.specs.declared.target.Weights.{Weights}
use Rattle.p3_formula.specs.declared.task.GroundStep.{GroundStep}
use Rattle.p3_formula.specs.declared.task.GroundTask.{GroundTask}
use Rattle.p3_run.specs.Groups.{Watch, watches_of, IsCounted}
use Rattle.p3_run.specs.Readers.{AreReaders}
use Rattle.p3_run.specs.Runs.{CanBeRun, ground_state, ground_fit, most_steps}
use Rattle.p3_run.specs.Steps.{prefs_violated, steps_weight}
use Rattle.p3_run.specs.Tallies.{Counted, IsTally}
use Rattle.p3_run.specs.declared.changing.ChangeFound.{ChangeFound}
use Rattle.p3_run.specs.declared.readers.OperatorReader.{OperatorReader}

-- so many changes fit
abbrev pub HasChangesUpTo : ℕ → GroundStep → Type 0
HasChangesUpTo room step = length step.effects ≤ room

-- what stays for all steps
pub record CanRun (G : GroundTask) (weights : Weights) (filed : List (List OperatorReader)) (space : ℕ) : Type 0 where
  pub can : CanBeRun G weights
  pub small : All (λ weight. weight < 2 ^ 64) weights.by_name
  pub readers : AreReaders G filed
  pub room : All (HasChangesUpTo space) G.steps

-- what is so of the steps done
pub record HasRun (G : GroundTask) (weights : Weights) (plan : GroundPlan) (current : State) (groups : List Watch) (unmet unpreferred : Counted) (spent : ℕ) : Type 0 where
  pub fit : ground_fit G plan ≡ true
  pub short : length plan ≤ most_steps
  pub state : current ≡ ground_state G plan
  pub watches : groups ≡ watches_of (ground_visited G plan) G
  pub soft : IsCounted weights.by_name groups unmet
  pub prefs : IsTally weights.by_name (λ name. prefs_violated G plan name) (steps_weight G weights plan) unpreferred
  pub cost : spent ≡ ground_cost G plan

-- all that a run keeps
pub record IsRunOf (G : GroundTask) (weights : Weights) (readers : List (List OperatorReader)) (found : List ChangeFound) (plan : GroundPlan) (state : State) (watches : List Watch) (soft prefs : Counted) (cost : ℕ) : Type 0 where
  pub can : CanRun G weights readers (length found)
  pub run : HasRun G weights plan state watches soft prefs cost
