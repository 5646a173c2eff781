-- The step that is the first fault of a plan, and what is wrong with it.
use Rattle.std.proofs.Common.{arith, ◌≡◌, ◌∙◌, ℕ, ◌+◌, ◌-◌, ◌<◌, ◌≤◌, Bool, true, false, not, [], ◌∷◌, length, take, get_or, Option, Some, None, is_some, refl, sym, ap, subst, zero, suc}
use Rattle.std.specs.Prelude.{filter_map, slice_get, option_map, position, if◌then◌else◌}
use Rattle.std.specs.List.{enumerate_from, cons_option}
use Rattle.std.specs.Option.{option_or}
use Rattle.p3_task.specs.Bindings.{are_arguments}
use Rattle.p3_task.specs.Constraints.{hard_list}
use Rattle.p3_task.specs.Goals.{hard_holds}
use Rattle.p3_task.specs.Plans.{Plan, action_named, arguments, cost_by, moves_from, state_after, state_at, visited, visited_from}
use Rattle.p3_task.specs.States.{State, start}
use Rattle.p3_task.specs.Validity.{Misfit, UnknownAction, Arguments, Precondition, NoCost, Fault, AtStep, AtGoal, AtConstraint, constraint_fault, fault_at, first_fault, goal_fault, goal_holds, is_met, misfit, misfit_by, step_fault}
use Rattle.p3_task.specs.declared.task.Action.{Action}
use Rattle.p3_task.specs.declared.task.Step.{Step}
use Rattle.p3_task.specs.declared.task.Task.{Task}
use Rattle.p3_types.specs.Finds.{HasOtherArguments}

-- ---- which step

-- the step at a place does not fit in the state before it, from a state on
pub record Misfits (T : Task) (s : State) (plan : Plan) (place : ℕ) (kind : Misfit) : Type 0 where
  pub step : Step
  pub at : slice_get plan place ≡ Some step
  pub why : misfit T (get_or (visited_from T s plan) place []) step ≡ Some kind

module _ (T : Task) where
  first-misfit : (s : State) (plan : Plan) (first number : ℕ) (kind : Misfit) → slice_get (filter_map (fault_at T) (enumerate_from first (moves_from T s plan))) 0 ≡ Some (AtStep number kind)
      → (place : ℕ) × (number ≡ first + place) × Misfits T s plan place kind
  first-misfit s [] first number kind e = absurd (cc)
  first-misfit s (step ∷ plan) first number kind e = by (misfit T s step) refl (first-misfit (state_after T s step) plan (first + 1) number kind) e
    where
      by : (here : Option Misfit) → misfit T s step ≡ here
          → (slice_get (filter_map (fault_at T) (enumerate_from (first + 1) (moves_from T (state_after T s step) plan))) 0 ≡ Some (AtStep number kind) → (place : ℕ) × (number ≡ first + 1 + place) × Misfits T (state_after T s step) plan place kind)
          → slice_get (cons_option (option_map (AtStep first) here) (filter_map (fault_at T) (enumerate_from (first + 1) (moves_from T (state_after T s step) plan)))) 0 ≡ Some (AtStep number kind)
          → (place : ℕ) × (number ≡ first + place) × Misfits T s (step ∷ plan) place kind
      by None is later e =
          let (place, counted, found) = later e in
          (suc place, omega (arith, counted), record { step = found.step; at = found.at; why = found.why })
      by (Some own) is later e =
          let same : first ≡ number = cc in
          let kinds : own ≡ kind = cc in
          (0, omega (arith, same), record { step = step; at = refl; why = is ∙ ap Some kinds })

-- the step of that number does not fit, for that reason
pub record IsMisfitAt (T : Task) (plan : Plan) (number : ℕ) (kind : Misfit) : Type 0 where
  pub counted : 0 < number
  pub step : Step
  pub at : slice_get plan (number - 1) ≡ Some step
  pub why : misfit T (state_at (visited T plan) (number - 1)) step ≡ Some kind

-- of a goal or a constraint the fault is no step
step-before : (number : ℕ) (kind : Misfit) (step : Option Fault) (holds : Bool) (unmet : Option ℕ) → option_or step (option_or (if holds then None else Some AtGoal) (option_map AtConstraint unmet)) ≡ Some (AtStep number kind) → step ≡ Some (AtStep number kind)
step-before number kind (Some fault) holds unmet e = e
step-before number kind None true None e = absurd (cc)
step-before number kind None true (Some place) e = absurd (cc)
step-before number kind None false unmet e = absurd (cc)

pub misfit-at : (T : Task) (plan : Plan) (number : ℕ) (kind : Misfit) → first_fault T plan ≡ Some (AtStep number kind) → IsMisfitAt T plan number kind
unfolding first_fault step_fault goal_fault constraint_fault visited
misfit-at T plan number kind e =
    let (place, counted, found) = first-misfit T (start T) plan 1 number kind (step-before number kind (step_fault T plan) (goal_holds T plan) (position (λ entry. not (is_met T plan entry)) (hard_list T)) e) in
    let here : place ≡ number - 1 = omega (arith, counted) in
    record {
      counted = omega (arith, counted);
      step = found.step;
      at = subst (λ k. slice_get plan k ≡ Some found.step) here found.at;
      why = subst (λ k. misfit T (state_at (visited_from T (start T) plan) k) found.step ≡ Some kind) here found.why;
    }

-- ---- why

-- the first of three tests that fails
abbrev kind_of : Bool → Bool → Bool → Option Misfit
kind_of fit hold cost = if not fit then Some Arguments else (if not hold then Some Precondition else (if not cost then Some NoCost else None))

never-unknown : (a b c : Bool) → kind_of a b c ≡ Some UnknownAction → ⊥
never-unknown false b c e = cc
never-unknown true false c e = cc
never-unknown true true false e = cc
never-unknown true true true e = cc

first-fails : (a b c : Bool) → kind_of a b c ≡ Some Arguments → a ≡ false
first-fails false b c e = refl
first-fails true false c e = absurd (cc)
first-fails true true false e = absurd (cc)
first-fails true true true e = absurd (cc)

second-fails : (a b c : Bool) → kind_of a b c ≡ Some Precondition → b ≡ false
second-fails false b c e = absurd (cc)
second-fails true false c e = refl
second-fails true true false e = absurd (cc)
second-fails true true true e = absurd (cc)

third-fails : (a b c : Bool) → kind_of a b c ≡ Some NoCost → c ≡ false
third-fails false b c e = absurd (cc)
third-fails true false c e = absurd (cc)
third-fails true true false e = refl
third-fails true true true e = absurd (cc)

module _ (T : Task) (s : State) (step : Step) where
  unknown-by : (found : Option Action) → misfit_by T s step found ≡ Some UnknownAction → found ≡ None
  unknown-by None e = refl
  unknown-by (Some action) e = absurd (never-unknown _ _ _ e)

  pub unknown-why : misfit T s step ≡ Some UnknownAction → action_named T step.action ≡ None
  unfolding misfit
  unknown-why e = unknown-by (action_named T step.action) e

  arguments-by : (found : Option Action) → action_named T step.action ≡ found → misfit_by T s step found ≡ Some Arguments → HasOtherArguments T step
  arguments-by None named e = absurd (cc)
  arguments-by (Some action) named e = record {
    action = action;
    named = named;
    args = first-fails (are_arguments T action.params step.args) (hard_holds T s (arguments action step) action.pre.body) (is_some (cost_by T step action)) e;
  }

  pub arguments-why : misfit T s step ≡ Some Arguments → HasOtherArguments T step
  unfolding misfit
  arguments-why e = arguments-by (action_named T step.action) refl e

  module _ (action : Action) (named : action_named T step.action ≡ Some action) where
    by-action : (kind : Misfit) → misfit T s step ≡ Some kind → misfit_by T s step (Some action) ≡ Some kind
    unfolding misfit
    by-action kind e = sym (ap (misfit_by T s step) named) ∙ e

    pub precondition-why : misfit T s step ≡ Some Precondition → hard_holds T s (arguments action step) action.pre.body ≡ false
    precondition-why e = second-fails (are_arguments T action.params step.args) (hard_holds T s (arguments action step) action.pre.body) (is_some (cost_by T step action)) (by-action Precondition e)

    pub no-cost-why : misfit T s step ≡ Some NoCost → is_some (cost_by T step action) ≡ false
    no-cost-why e = third-fails (are_arguments T action.params step.args) (hard_holds T s (arguments action step) action.pre.body) (is_some (cost_by T step action)) (by-action NoCost e)

-- ---- the states of the first steps

module _ (T : Task) where
  first-states : (s : State) (plan : Plan) (m k : ℕ) → k ≤ m → get_or (visited_from T s (take m plan)) k [] ≡ get_or (visited_from T s plan) k []
  first-states s [] zero k within = refl
  first-states s [] (suc m) k within = refl
  first-states s (step ∷ plan) zero zero within = refl
  first-states s (step ∷ plan) zero (suc k) within = absurd (omega (arith, within))
  first-states s (step ∷ plan) (suc m) zero within = refl
  first-states s (step ∷ plan) (suc m) (suc k) within = first-states (state_after T s step) plan m k (omega (arith, within))

  pub first-state : (plan : Plan) (m k : ℕ) → k ≤ m → state_at (visited T (take m plan)) k ≡ state_at (visited T plan) k
  unfolding visited
  first-state plan m k within = first-states (start T) plan m k within

  as-many : (s : State) (plan : Plan) → length (visited_from T s plan) ≡ suc (length plan)
  as-many s [] = refl
  as-many s (step ∷ plan) = ap suc (as-many (state_after T s step) plan)

  pub visits-as-many : (plan : Plan) → length (visited T plan) ≡ suc (length plan)
  unfolding visited
  visits-as-many plan = as-many (start T) plan
