-- That a target has few changes: those of a step ride only with the monitors that the step touches.
use Rattle.std.specs.Prelude.{◌≡◌, ◌⊎◌, ℕ, ◌+◌, ◌*◌, ◌≤◌, nat_lt, Bool, true, false, not, List, length, count_by, if◌then◌else◌, Some, Contains}
use Rattle.std.specs.List.{All}
use Rattle.p3_base.specs.Copies.{IsNamedFor, IsQuestionOf}
use Rattle.p3_base.specs.Words.{Name}
use Rattle.p3_formula.specs.Modals.{touches}
use Rattle.p3_formula.specs.Simplified.{is_value}
use Rattle.p3_formula.specs.Targets.{lifted_number}
use Rattle.p3_formula.specs.Weighted.{width_of}
use Rattle.p3_formula.specs.declared.form.Change.{Change}
use Rattle.p3_formula.specs.declared.form.Form.TheVariants.{True}
use Rattle.p3_formula.specs.GroundModal.{GroundModal}
use Rattle.p3_base.specs.Operators.{is_at_end}
use Rattle.p3_formula.specs.declared.target.Target.{Target}
use Rattle.p3_formula.specs.declared.target.TargetAction.{TargetAction}
use Rattle.p3_formula.specs.declared.target.Weights.{Weights}
use Rattle.p3_formula.specs.declared.task.GroundStep.{GroundStep}
use Rattle.p3_formula.specs.declared.task.GroundTask.{GroundTask}
use Rattle.p3_simulation.specs.Monitoring.{all_modals}

-- a constraint on more than the last state, of which the step may change an atom
abbrev pub is_busy : List Change → GroundModal → Bool
is_busy step modal = if is_at_end modal then false else touches modal step

abbrev pub busy_modals : List Change → List GroundModal → ℕ
busy_modals step modals = count_by (is_busy step) modals

-- the change may not happen
abbrev pub is_conditional : Change → Bool
is_conditional change = not (is_value true change.cond)

-- what a wide step's last action changes beside its effects
abbrev pub chain_changes : List ℕ → GroundStep → ℕ
chain_changes by_name step = if nat_lt 8 (width_of by_name step) then 3 else 0

-- the action has few changes for that step, where so many constraints are busy
pub record HasFew (by_name : List ℕ) (busy : ℕ) (step : GroundStep) (action : TargetAction) : Type 0 where
  pub all : length action.effects ≤ length step.effects + chain_changes by_name step + 2 * busy
  pub conditional : count_by is_conditional action.effects ≤ count_by is_conditional step.effects + 2 * busy

-- ---- which actions belong to a step

-- it counts as the step, or is one of its questions or its end
abbrev pub BelongsTo : GroundTask → ℕ → Name → Type 0
BelongsTo G number name = (lifted_number G name ≡ Some number) ⊎ IsQuestionOf number name

pub record HasStep (G : GroundTask) (number : ℕ) : Type 0 where
  pub step : GroundStep
  pub own : Contains G.steps step
  pub is : step.number ≡ number

-- an action that has the name and the changes of one of the step
pub record IsStepAction (by_name : List ℕ) (busy : ℕ) (step : GroundStep) (action : TargetAction) : Type 0 where
  pub named : IsNamedFor step.number action.name
  pub few : HasFew by_name busy step action

-- an action of one of the steps
pub record IsOfSteps (by_name : List ℕ) (busy : GroundStep → ℕ) (steps : List GroundStep) (action : TargetAction) : Type 0 where
  pub step : GroundStep
  pub own : Contains steps step
  pub is : IsStepAction by_name (busy step) step action

-- what it changes happens always
abbrev pub IsAlways : TargetAction → Type 0
IsAlways action = All (λ (change : Change). change.cond ≡ True) action.effects

-- ---- lean targets

-- each action that counts as a step counts as one that is kept; the actions of a step have few changes; and what the others do happens always. Each action is one of a kept step, or does what it does always
pub record IsLean (G : GroundTask) (weights : Weights) (X : Target) : Type 0 where
  pub kept : (action : TargetAction) (number : ℕ) → Contains X.actions action → lifted_number G action.name ≡ Some number → HasStep G number
  pub few : (action : TargetAction) (step : GroundStep) → Contains X.actions action → Contains G.steps step → BelongsTo G step.number action.name → HasFew weights.by_name (busy_modals step.effects (all_modals G)) step action
  pub others : (action : TargetAction) → Contains X.actions action → ((step : GroundStep) → Contains G.steps step → BelongsTo G step.number action.name → ⊥) → IsAlways action
  pub each : (action : TargetAction) → Contains X.actions action → IsOfSteps weights.by_name (λ step. busy_modals step.effects (all_modals G)) G.steps action ⊎ IsAlways action
