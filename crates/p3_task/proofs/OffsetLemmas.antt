-- No definition depends on the offsets kept in trees, down to what it is that a translation is faithful.
use Rattle.std.proofs.Common.{◌≡◌, ◌∙◌, ◌↔◌, ◌+◌, refl, sym, ap, subst, length, Option, None, Some, ◌-ℤ◌}
use Rattle.std.specs.Prelude.{option_map, sum_by}
use Rattle.std.proofs.lemmas.List.{length-map}
use Rattle.p3_base.specs.Copies.{extra_of}
use Rattle.p3_task.specs.Plans.{Plan, action_named}
use Rattle.p3_task.specs.Constraints.{instances}
use Rattle.p3_task.specs.Validity.{Valid}
use Rattle.p3_task.specs.Metrics.{loss, base_loss}
use Rattle.p3_task.specs.Lifting.{lift}
use Rattle.p3_task.specs.Faithful.{extra_by, extra, IsSound, HasOneSource, Faithful}
use Rattle.p3_task.specs.Erased.{erased_action, erased, erased_instance}
use Rattle.p3_task.specs.Offsets.{OffsetFree}
use Rattle.p3_task.proofs.Erased.Words.{below-erased, objects-erased, start-erased, bind-erased, are_arguments-erased}
use Rattle.p3_task.proofs.Erased.Meanings.{holds-erased, adds-erased, dels-erased, next-erased, hard_holds-erased, prefs-erased, cost_places-erased, satisfies-erased, sat-erased, hard_list-erased, operators-erased, instances-erased}
use Rattle.p3_task.proofs.Erased.Plans.{action_named-erased, step_cost-erased, fits-erased, state_after-erased, visited-erased, Reached-erased, is_valid-erased, first_fault-erased, violated-erased, cost-erased, metric_places-erased, value-erased, loss-erased, base_loss-erased, weight-erased, cost_weight-erased}
use Rattle.p3_task.proofs.Erased.Offences.{WellFormed-erased}
use Rattle.p3_task.proofs.Erased.Lifting.{is_plain-erased, is_variable_free-erased, steps-erased, lift-erased}
use Rattle.p3_task.proofs.Erased.Limits.{formula_size-erased, effect_size-erased, goal_size-erased, constraint_size-erased, width-erased, cost_bound-erased, constant-erased, coefficient-erased, cost_coefficient-erased}
use Rattle.p3_task.specs.declared.task.Action.{Action}
use Rattle.p3_task.specs.declared.task.Step.{Step}
use Rattle.p3_task.specs.declared.task.Task.{Task}

pub offset_free : (T : Task) → OffsetFree T
offset_free T = record {
  below = below-erased T;
  objects = objects-erased T;
  start = start-erased T;
  bind = bind-erased T;
  are_arguments = are_arguments-erased T;
  holds = holds-erased T;
  adds = adds-erased T;
  dels = dels-erased T;
  next = next-erased T;
  hard_holds = hard_holds-erased T;
  prefs = prefs-erased T;
  cost_places = cost_places-erased T;
  step_cost = step_cost-erased T;
  fits = fits-erased T;
  state_after = state_after-erased T;
  visited = visited-erased T;
  reached = Reached-erased T;
  satisfies = satisfies-erased T;
  sat = sat-erased T;
  hard_list = hard_list-erased T;
  operators = operators-erased T;
  instances = instances-erased T;
  is_valid = is_valid-erased T;
  first_fault = first_fault-erased T;
  violated = violated-erased T;
  cost = cost-erased T;
  metric_places = metric_places-erased T;
  value = value-erased T;
  loss = loss-erased T;
  base_loss = base_loss-erased T;
  weight = weight-erased T;
  cost_weight = cost_weight-erased T;
  well_formed = WellFormed-erased T;
  is_plain = is_plain-erased T;
  is_variable_free = is_variable_free-erased T;
  steps = steps-erased T;
  lift = lift-erased T;
  formula_size = formula_size-erased T;
  effect_size = effect_size-erased T;
  goal_size = goal_size-erased T;
  constraint_size = constraint_size-erased T;
  width = width-erased T;
  cost_bound = cost_bound-erased T;
  constant = constant-erased T;
  coefficient = coefficient-erased T;
  cost_coefficient = cost_coefficient-erased T;
}

-- ---- faithful translations

valid_to : (T : Task) (plan : Plan) → Valid T plan → Valid (erased T) plan
valid_to T plan valid = is_valid-erased T plan ∙ valid

valid_from : (T : Task) (plan : Plan) → Valid (erased T) plan → Valid T plan
valid_from T plan valid = sym (is_valid-erased T plan) ∙ valid

instance_count-erased : (T : Task) → length (instances (erased T)) ≡ length (instances T)
instance_count-erased T = ap length (instances-erased T) ∙ length-map (instances T) erased_instance

module _ (T : Task) where
  extra_by-erased : (action : Option Action) → extra_by (erased T) (option_map erased_action action) ≡ extra_by T action
  extra_by-erased None = refl
  extra_by-erased (Some action) = ap extra_of (width-erased T action)

  extra_of_step-erased : (step : Step) → extra_by (erased T) (action_named (erased T) step.action) ≡ extra_by T (action_named T step.action)
  extra_of_step-erased step = ap (extra_by (erased T)) (action_named-erased T step.action) ∙ extra_by-erased (action_named T step.action)

  extra-erased : (plan : Plan) → extra (erased T) plan ≡ extra T plan
  unfolding extra
  extra-erased plan = λ i. sum_by (λ step. extra_of_step-erased step i) plan

module _ (T U : Task) where
  above_base-erased : (p : Plan) → (loss (erased T) p -ℤ base_loss (erased T)) ≡ (loss T p -ℤ base_loss T)
  above_base-erased p = λ i. loss-erased T p i -ℤ base_loss-erased T i

  sound_to : (q : Plan) → IsSound T U q → IsSound (erased T) (erased U) q
  sound_to q sound = record {
    valid = valid_to T (lift (erased T) q) (subst (Valid T) (sym (lift-erased T q)) sound.valid);
    cost = value-erased U q ∙ sound.cost ∙ sym (above_base-erased (lift T q)) ∙ ap (λ p. loss (erased T) p -ℤ base_loss (erased T)) (sym (lift-erased T q));
  }

  sound_from : (q : Plan) → IsSound (erased T) (erased U) q → IsSound T U q
  sound_from q sound = record {
    valid = subst (Valid T) (lift-erased T q) (valid_from T (lift (erased T) q) sound.valid);
    cost = sym (value-erased U q) ∙ sound.cost ∙ ap (λ p. loss (erased T) p -ℤ base_loss (erased T)) (lift-erased T q) ∙ above_base-erased (lift T q);
  }

  source_to : (p : Plan) → HasOneSource T U p → HasOneSource (erased T) (erased U) p
  source_to p one = record {
    source = one.source;
    valid = valid_to U one.source one.valid;
    lifts = lift-erased T one.source ∙ one.lifts;
    only = λ q valid lifts. one.only q (valid_from U q valid) (sym (lift-erased T q) ∙ lifts);
  }

  source_from : (p : Plan) → HasOneSource (erased T) (erased U) p → HasOneSource T U p
  source_from p one = record {
    source = one.source;
    valid = valid_from U one.source one.valid;
    lifts = sym (lift-erased T one.source) ∙ one.lifts;
    only = λ q valid lifts. one.only q (valid_to U q valid) (lift-erased T q ∙ lifts);
  }

  counted : (q : Plan) → (length (lift (erased T) q) + 1 + length (instances (erased T)) + extra (erased T) (lift (erased T) q)) ≡ (length (lift T q) + 1 + length (instances T) + extra T (lift T q))
  counted q = (λ i. length (lift-erased T q i) + 1 + instance_count-erased T i + extra (erased T) (lift-erased T q i)) ∙ ap (λ more. length (lift T q) + 1 + length (instances T) + more) (extra-erased T (lift T q))

  pub faithful_offset_free : Faithful (erased T) (erased U) ↔ Faithful T U
  faithful_offset_free = (
    λ faithful. record {
      well_formed = (WellFormed-erased U).0 faithful.well_formed;
      plain = sym (is_plain-erased U) ∙ faithful.plain;
      variable_free = sym (is_variable_free-erased U) ∙ faithful.variable_free;
      whole = sym (cost_places-erased U) ∙ faithful.whole;
      sound = λ q valid. sound_from q (faithful.sound q (valid_to U q valid));
      one_to_one = λ p valid. source_from p (faithful.one_to_one p (valid_to T p valid));
      length = λ q valid. faithful.length q (valid_to U q valid) ∙ counted q;
    },
    λ faithful. record {
      well_formed = (WellFormed-erased U).1 faithful.well_formed;
      plain = is_plain-erased U ∙ faithful.plain;
      variable_free = is_variable_free-erased U ∙ faithful.variable_free;
      whole = cost_places-erased U ∙ faithful.whole;
      sound = λ q valid. sound_to q (faithful.sound q (valid_from U q valid));
      one_to_one = λ p valid. source_to p (faithful.one_to_one p (valid_from T p valid));
      length = λ q valid. faithful.length q (valid_from U q valid) ∙ sym (counted q);
    },
  )
