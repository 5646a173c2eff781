-- An accepted task has few steps.
use Rattle.std.proofs.Common.{◌≡◌, ◌∙◌, ℕ, ◌-◌, ◌≤◌, refl, sym, Bool, true, false, cond, List, [], ◌∷◌, length, arith, length-append, Some, None}
use Rattle.std.specs.Prelude.{flat_map, nat_lt}
use Rattle.std.proofs.lemmas.Bool.{ltb-false}
use Rattle.std.proofs.lemmas.List.{length-map}
use Rattle.p3_base.specs.declared.refusal.Side.{Side}
use Rattle.p3_task.specs.Bindings.{bind, extended, tuples}
use Rattle.p3_task.specs.Lifting.{steps, steps_of}
use Rattle.p3_task.specs.Limits.{binding_count, step_count}
use Rattle.p3_task.specs.Offences.{WellFormed}
use Rattle.p3_task.specs.Refusals.Counts.{passes_at, size_refusals, too_many_steps}
use Rattle.p3_task.specs.Refusals.First.{task_refusal}
use Rattle.p3_task.specs.declared.task.Action.{Action}
use Rattle.p3_task.specs.declared.task.Task.{Task}
use Rattle.p3_task.specs.Sides.{step_count_limit}
use Rattle.p3_limits.proofs.PreferenceLaws.{length-bind}
use Rattle.p3_eval.proofs.RefusalLaws.{each_none, no_size, unmapped}

module _ (T : Task) where
  abbrev bindings : Action → ℕ
  bindings action = binding_count T action.params

  count_is : (action : Action) → length (steps_of T action) ≡ bindings action
  unfolding bind
  count_is action = length-map (tuples T action.params) _ ∙ sym (length-map (tuples T action.params) (extended [] action.params)) ∙ length-bind T [] action.params

  few_from : (limit : ℕ) (actions : List Action) → passes_at bindings limit actions ≡ None → length (flat_map (steps_of T) actions) ≤ limit
  few_from limit [] none = omega arith
  few_from limit (action ∷ actions) none = by (nat_lt limit (bindings action)) refl none (few_from (limit - bindings action) actions)
    where
      by : (t : Bool) → nat_lt limit (bindings action) ≡ t → cond t (Some action) (passes_at bindings (limit - bindings action) actions) ≡ None
          → (passes_at bindings (limit - bindings action) actions ≡ None → length (flat_map (steps_of T) actions) ≤ limit - bindings action)
          → length (flat_map (steps_of T) (action ∷ actions)) ≤ limit
      by true e none rest = absurd (cc)
      by false e none rest =
          let within = ltb-false limit (bindings action) e in
          let others = rest none in
          omega (arith, within, others, count_is action, length-append (steps_of T action) (flat_map (steps_of T) actions))

pub few_steps : (side : Side) (T : Task) → WellFormed T → task_refusal side T ≡ None → step_count T ≤ step_count_limit
unfolding steps
few_steps side T well none = few_from T step_count_limit T.domain.actions (unmapped _ _ (each_none (size_refusals side T) (no_size side T well none) 0 (too_many_steps side T) refl))
