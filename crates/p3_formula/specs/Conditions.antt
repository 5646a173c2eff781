-- What is asked of a ground task and its weights before the task is compiled, and that the forms of a target are tidy.
use Rattle.std.specs.Prelude.{◌≡◌, ℕ, ◌+◌, ◌<◌, ◌≤◌, nat_lt, Bool, true, ◌&&◌, List, [], ◌∷◌, length, sum_by, IsSome, IsTrue}
use Rattle.std.specs.List.{All, list_all}
pub use Rattle.p3_base.specs.Limits.{instance_limit, width_limit, weight_bound}
use Rattle.p3_formula.specs.Forms.{is_below, IsBelow}
use Rattle.p3_formula.specs.Modals.{is_modal_below}
use Rattle.p3_formula.specs.Targets.{is_sized_change}
use Rattle.p3_formula.specs.Tidy.{is_tidy}
use Rattle.p3_formula.specs.Weighted.{HasNameBelow, AreNamedBelow, weight_of, weighted_cost, width_of}
use Rattle.p3_formula.specs.declared.form.Change.{Change}
use Rattle.p3_formula.specs.declared.modal.GroundPref.{GroundPref}
use Rattle.p3_formula.specs.declared.modal.GroundSoft.{GroundSoft}
use Rattle.p3_formula.specs.declared.target.Target.{Target}
use Rattle.p3_formula.specs.declared.target.TargetAction.{TargetAction}
use Rattle.p3_formula.specs.declared.target.Weights.{Weights}
use Rattle.p3_formula.specs.declared.task.GroundStep.{GroundStep}
use Rattle.p3_formula.specs.declared.task.GroundTask.{GroundTask}

-- ---- atoms, numbers and names

abbrev pub is_step_below : ℕ → GroundStep → Bool
is_step_below count step =
    is_below count step.pre && list_all (λ (pref : GroundPref). is_below count pref.body) step.prefs && list_all (is_sized_change count) step.effects

-- all atoms of the task are below its count of atoms
pub record HasAtomsBelow (G : GroundTask) : Type 0 where
  pub steps : IsTrue (list_all (is_step_below G.atoms) G.steps)
  pub goal : IsBelow G.atoms G.goal
  pub hard : IsTrue (list_all (is_modal_below G.atoms) G.hard)
  pub soft : IsTrue (list_all (λ (soft : GroundSoft). list_all (is_modal_below G.atoms) soft.parts) G.soft)

-- the steps have rising numbers, from one on and below the count
abbrev pub rises : ℕ → ℕ → List GroundStep → Bool
rises from count [] = true
rises from count (step ∷ steps) = nat_lt step.number count && nat_lt from (step.number + 1) && rises (step.number + 1) count steps

-- all names of the task are below the count
pub record HasNamesBelow (count : ℕ) (G : GroundTask) : Type 0 where
  pub steps : All (λ (step : GroundStep). AreNamedBelow count step.prefs) G.steps
  pub soft : All (λ (soft : GroundSoft). HasNameBelow count soft.name) G.soft

-- ---- limits

-- a step with a cost is not too wide, and its weighted cost with the weights of all its preferences is small
pub record IsWithinLimits (weights : Weights) (step : GroundStep) : Type 0 where
  pub width : IsSome step.cost → width_of weights.by_name step ≤ width_limit
  pub cost : IsSome step.cost → weighted_cost weights step + sum_by (weight_of weights.by_name) step.prefs < weight_bound

-- ---- the conditions

pub record IsReady (G : GroundTask) (weights : Weights) : Type 0 where
  pub atoms : HasAtomsBelow G
  pub bits : length G.initial ≡ G.atoms
  pub numbers : IsTrue (rises 0 G.step_count G.steps)
  pub names : HasNamesBelow (length weights.by_name) G
  pub few : length G.soft ≤ instance_limit
  pub limits : All (IsWithinLimits weights) G.steps

-- ---- tidy targets

abbrev pub is_tidy_action : TargetAction → Bool
is_tidy_action action = is_tidy action.pre && list_all (λ (change : Change). is_tidy change.cond) action.effects

pub record HasTidyForms (X : Target) : Type 0 where
  pub goal : IsTrue (is_tidy X.goal)
  pub actions : IsTrue (list_all is_tidy_action X.actions)
