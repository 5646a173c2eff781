-- Plans, their faults and their values are the same without offsets.
use Rattle.std.proofs.Common.{◌≡◌, ◌∙◌, ◌↔◌, ℕ, ◌+◌, refl, sym, ap, not, ◌&&◌, List, [], ◌∷◌, map, Option, None, Some, is_some, ltb, cond, pos, ◌-ℤ◌}
use Rattle.std.specs.Prelude.{filter_map, slice_get, option_map, option_and_then, position, if◌then◌else◌, sum_by, unwrap_or}
use Rattle.std.specs.Option.{option_or}
use Rattle.std.specs.List.{list_all, enumerate_from, prefix_len}
use Rattle.std.proofs.lemmas.List.{length-map, map-id}
use Rattle.p3_task.specs.Folds.{fold_num}
use Rattle.p3_task.specs.Names.{Name, total_cost}
use Rattle.p3_task.specs.States.{has_fact, State, start}
use Rattle.p3_task.specs.Effects.{next}
use Rattle.p3_task.specs.Goals.{StatePref, hard_holds, prefs}
use Rattle.p3_task.specs.Costs.{cost_places, initial_cost, effect_cost}
use Rattle.p3_task.specs.Plans.{Plan, action_named, arguments, cost_by, fits_by, state_by, step_cost, fits, state_after, visited_from, visited, last_state, Move, moves_from, moves, steps_fit, Reached}
use Rattle.p3_task.specs.Constraints.{HardModal, satisfies, hard_list, Instance, instances}
use Rattle.p3_task.specs.Validity.{goal_holds, is_met, is_valid, Arguments, Precondition, NoCost, misfit, misfit_by, AtStep, AtGoal, AtConstraint, step_fault, goal_fault, constraint_fault, first_fault}
use Rattle.p3_task.specs.Metrics.{is_called, unsatisfied, false_in, prefs_by, step_prefs, violated, cost, Quantity, sum_of, product_of, quantity_layer, quantity, quantity_by, metric_quantity, metric_places, direction_by, signed, loss_at, value, loss, no_counts, base_loss, one_count, weight, cost_weight}
use Rattle.p3_task.specs.Erased.{erased_action, erased_metric, erased_num, erased, erased_state_pref, erased_hard_modal, erased_instance}
use Rattle.p3_task.proofs.Erased.Along.{all_along, find_along, prefix_along, fold_along}
use Rattle.p3_task.proofs.Erased.Folds.{erased_num_layer, fold_num-erased}
use Rattle.p3_task.proofs.Erased.Words.{start-erased, extended-erased, are_arguments-erased}
use Rattle.p3_task.proofs.Erased.Meanings.{holds-erased, next-erased, hard_holds-erased, prefs-erased, cost_places-erased, given_value-erased, effect_cost-erased, satisfies-erased, sat-erased, hard_list-erased, instances-erased}
use Rattle.p3_task.specs.declared.metric.Metric.{Metric}
use Rattle.p3_task.specs.declared.metric.Num.{Num, Num-F}
use Rattle.p3_task.specs.declared.metric.Num.TheOpen.{Number, TotalCost, Violated, Neg, Sub, Sum, Product}
use Rattle.p3_task.specs.declared.task.Action.{Action}
use Rattle.p3_task.specs.declared.task.Step.{Step}
use Rattle.p3_task.specs.declared.task.Task.{Task}

pub arguments-erased : (action : Action) (step : Step) → arguments (erased_action action) step ≡ arguments action step
arguments-erased action step = extended-erased [] action.params step.args

module _ (T : Task) where
  -- ---- steps

  pub action_named-erased : (name : Name) → action_named (erased T) name ≡ option_map erased_action (action_named T name)
  unfolding action_named
  action_named-erased name = find_along erased_action _ _ (λ action. refl) T.domain.actions

  cost_by-erased : (step : Step) (action : Action) → cost_by (erased T) step (erased_action action) ≡ cost_by T step action
  cost_by-erased step action = ap (λ env. effect_cost (erased T) env (erased_action action).effect.body) (arguments-erased action step) ∙ effect_cost-erased T (arguments action step) action.effect.body

  pre-erased : (s : State) (step : Step) (action : Action) → hard_holds (erased T) s (arguments (erased_action action) step) (erased_action action).pre.body ≡ hard_holds T s (arguments action step) action.pre.body
  pre-erased s step action = ap (λ env. hard_holds (erased T) s env (erased_action action).pre.body) (arguments-erased action step) ∙ hard_holds-erased T s (arguments action step) action.pre.body

  fits_by-erased : (s : State) (step : Step) (action : Option Action) → fits_by (erased T) s step (option_map erased_action action) ≡ fits_by T s step action
  fits_by-erased s step None = refl
  fits_by-erased s step (Some action) = λ i. are_arguments-erased T action.params step.args i && pre-erased s step action i && is_some (cost_by-erased step action i)

  pub fits-erased : (s : State) (step : Step) → fits (erased T) s step ≡ fits T s step
  unfolding fits
  fits-erased s step = ap (fits_by (erased T) s step) (action_named-erased step.action) ∙ fits_by-erased s step (action_named T step.action)

  step_cost_by : (step : Step) (action : Option Action) → option_and_then (cost_by (erased T) step) (option_map erased_action action) ≡ option_and_then (cost_by T step) action
  step_cost_by step None = refl
  step_cost_by step (Some action) = cost_by-erased step action

  pub step_cost-erased : (step : Step) → step_cost (erased T) step ≡ step_cost T step
  unfolding step_cost
  step_cost-erased step = ap (option_and_then (cost_by (erased T) step)) (action_named-erased step.action) ∙ step_cost_by step (action_named T step.action)

  state_by-erased : (s : State) (step : Step) (action : Option Action) → state_by (erased T) s step (option_map erased_action action) ≡ state_by T s step action
  state_by-erased s step None = refl
  state_by-erased s step (Some action) = ap (λ env. next (erased T) s env (erased_action action).effect.body) (arguments-erased action step) ∙ next-erased T s (arguments action step) action.effect.body

  pub state_after-erased : (s : State) (step : Step) → state_after (erased T) s step ≡ state_after T s step
  unfolding state_after
  state_after-erased s step = ap (state_by (erased T) s step) (action_named-erased step.action) ∙ state_by-erased s step (action_named T step.action)

  -- ---- plans

  visited_from-erased : (s : State) (plan : Plan) → visited_from (erased T) s plan ≡ visited_from T s plan
  visited_from-erased s [] = refl
  visited_from-erased s (step ∷ plan) = ap (λ rest. s ∷ rest) (ap (λ after. visited_from (erased T) after plan) (state_after-erased s step) ∙ visited_from-erased (state_after T s step) plan)

  pub visited-erased : (plan : Plan) → visited (erased T) plan ≡ visited T plan
  unfolding visited
  visited-erased plan = ap (λ s. visited_from (erased T) s plan) (start-erased T) ∙ visited_from-erased (start T) plan

  moves_from-erased : (s : State) (plan : Plan) → moves_from (erased T) s plan ≡ moves_from T s plan
  moves_from-erased s [] = refl
  moves_from-erased s (step ∷ plan) = ap (λ rest. record { state = s; step = step } ∷ rest) (ap (λ after. moves_from (erased T) after plan) (state_after-erased s step) ∙ moves_from-erased (state_after T s step) plan)

  moves-erased : (plan : Plan) → moves (erased T) plan ≡ moves T plan
  moves-erased plan = ap (λ s. moves_from (erased T) s plan) (start-erased T) ∙ moves_from-erased (start T) plan

  pub steps_fit-erased : (plan : Plan) → steps_fit (erased T) plan ≡ steps_fit T plan
  unfolding steps_fit
  steps_fit-erased plan = λ i. list_all (λ (move : Move). fits-erased move.state move.step i) (moves-erased plan i)

  pub Reached-erased : (s : State) → Reached (erased T) s ↔ Reached T s
  Reached-erased s = (
    λ reached. record { plan = reached.plan; fit = sym (steps_fit-erased reached.plan) ∙ reached.fit; last = λ fact. reached.last fact ∙ ap (λ W. has_fact (last_state W) fact) (visited-erased reached.plan) },
    λ reached. record { plan = reached.plan; fit = steps_fit-erased reached.plan ∙ reached.fit; last = λ fact. reached.last fact ∙ ap (λ W. has_fact (last_state W) fact) (sym (visited-erased reached.plan)) },
  )

  -- ---- validity

  pub goal_holds-erased : (plan : Plan) → goal_holds (erased T) plan ≡ goal_holds T plan
  unfolding goal_holds
  goal_holds-erased plan = (λ i. hard_holds (erased T) (last_state (visited-erased plan i)) [] (erased T).problem.goal.body) ∙ hard_holds-erased T (last_state (visited T plan)) [] T.problem.goal.body

  is_met-erased : (plan : Plan) (entry : HardModal) → is_met (erased T) plan (erased_hard_modal entry) ≡ is_met T plan entry
  is_met-erased plan entry = (λ i. satisfies (erased T) (visited-erased plan i) entry.env (erased_hard_modal entry).modal) ∙ satisfies-erased T (visited T plan) entry.env entry.modal

  all_met-erased : (plan : Plan) → list_all (is_met (erased T) plan) (hard_list (erased T)) ≡ list_all (is_met T plan) (hard_list T)
  all_met-erased plan = ap (list_all (is_met (erased T) plan)) (hard_list-erased T) ∙ all_along erased_hard_modal (is_met (erased T) plan) (is_met T plan) (is_met-erased plan) (hard_list T)

  pub is_valid-erased : (plan : Plan) → is_valid (erased T) plan ≡ is_valid T plan
  unfolding is_valid
  is_valid-erased plan = λ i. steps_fit-erased plan i && goal_holds-erased plan i && all_met-erased plan i

  misfit_by-erased : (s : State) (step : Step) (action : Option Action) → misfit_by (erased T) s step (option_map erased_action action) ≡ misfit_by T s step action
  misfit_by-erased s step None = refl
  misfit_by-erased s step (Some action) = λ i.
      if not (are_arguments-erased T action.params step.args i) then Some Arguments
      else (if not (pre-erased s step action i) then Some Precondition
      else (if not (is_some (cost_by-erased step action i)) then Some NoCost else None))

  misfit-erased : (s : State) (step : Step) → misfit (erased T) s step ≡ misfit T s step
  unfolding misfit
  misfit-erased s step = ap (misfit_by (erased T) s step) (action_named-erased step.action) ∙ misfit_by-erased s step (action_named T step.action)

  step_fault-erased : (plan : Plan) → step_fault (erased T) plan ≡ step_fault T plan
  unfolding step_fault
  step_fault-erased plan = λ i. slice_get (filter_map (λ (numbered : ℕ × Move). option_map (AtStep numbered.0) (misfit-erased numbered.1.state numbered.1.step i)) (enumerate_from 1 (moves-erased plan i))) 0

  goal_fault-erased : (plan : Plan) → goal_fault (erased T) plan ≡ goal_fault T plan
  unfolding goal_fault
  goal_fault-erased plan = λ i. if goal_holds-erased plan i then None else Some AtGoal

  constraint_fault-erased : (plan : Plan) → constraint_fault (erased T) plan ≡ constraint_fault T plan
  unfolding constraint_fault
  constraint_fault-erased plan =
      ap (λ list. option_map AtConstraint (position (λ entry. not (is_met (erased T) plan entry)) list)) (hard_list-erased T)
      ∙ (λ i. option_map AtConstraint (cond (ltb (places i) (length-map (hard_list T) erased_hard_modal i)) (Some (places i)) None))
    where
      places : prefix_len (λ entry. not (not (is_met (erased T) plan entry))) (map erased_hard_modal (hard_list T)) ≡ prefix_len (λ entry. not (not (is_met T plan entry))) (hard_list T)
      places = prefix_along erased_hard_modal _ _ (λ entry i. not (not (is_met-erased plan entry i))) (hard_list T)

  pub first_fault-erased : (plan : Plan) → first_fault (erased T) plan ≡ first_fault T plan
  unfolding first_fault
  first_fault-erased plan = λ i. option_or (step_fault-erased plan i) (option_or (goal_fault-erased plan i) (constraint_fault-erased plan i))

  -- ---- counts and costs

  pub unsatisfied-erased : (W : List State) (name : Name) (list : List Instance) → unsatisfied (erased T) W name (map erased_instance list) ≡ unsatisfied T W name list
  unsatisfied-erased W name list = fold_along erased_instance _ _ (λ count instance i. count + cond (is_called name instance.name && not (sat-erased T W instance.env instance.body i)) 1 0) 0 list

  false_in-erased : (s : State) (name : Name) (list : List StatePref) → false_in (erased T) s name (map erased_state_pref list) ≡ false_in T s name list
  false_in-erased s name list = fold_along erased_state_pref _ _ (λ count pref i. count + cond (is_called name pref.name && not (holds-erased T s pref.env pref.body i)) 1 0) 0 list

  prefs_by-erased : (step : Step) (action : Option Action) → prefs_by (erased T) step (option_map erased_action action) ≡ map erased_state_pref (prefs_by T step action)
  prefs_by-erased step None = refl
  prefs_by-erased step (Some action) = ap (λ env. prefs (erased T) env (erased_action action).pre.body) (arguments-erased action step) ∙ prefs-erased T (arguments action step) action.pre.body

  step_prefs-erased : (step : Step) → step_prefs (erased T) step ≡ map erased_state_pref (step_prefs T step)
  unfolding step_prefs
  step_prefs-erased step = ap (prefs_by (erased T) step) (action_named-erased step.action) ∙ prefs_by-erased step (action_named T step.action)

  step_counts-erased : (name : Name) (s : State) (step : Step) → false_in (erased T) s name (step_prefs (erased T) step) ≡ false_in T s name (step_prefs T step)
  step_counts-erased name s step = ap (false_in (erased T) s name) (step_prefs-erased step) ∙ false_in-erased s name (step_prefs T step)

  pub violated-erased : (plan : Plan) (name : Name) → violated (erased T) plan name ≡ violated T plan name
  unfolding violated
  violated-erased plan name = λ i. instance_counts i + sum_by (λ (move : Move). step_counts-erased name move.state move.step i) (moves-erased plan i)
    where
      instance_counts : unsatisfied (erased T) (visited (erased T) plan) name (instances (erased T)) ≡ unsatisfied T (visited T plan) name (instances T)
      instance_counts = (λ i. unsatisfied (erased T) (visited-erased plan i) name (instances-erased T i)) ∙ unsatisfied-erased (visited T plan) name (instances T)

  pub initial_cost-erased : initial_cost (erased T) ≡ initial_cost T
  initial_cost-erased = ap (λ given. unwrap_or given 0) (given_value-erased T total_cost [])

  pub cost-erased : (plan : Plan) → cost (erased T) plan ≡ cost T plan
  unfolding cost
  cost-erased plan = λ i. initial_cost-erased i + sum_by (λ step. unwrap_or (step_cost-erased step i) 0) plan

-- ---- the metric

quantity_layer-erased : (counts : Name → ℕ) (total : Quantity) (x : Num-F Quantity) → quantity_layer counts total (erased_num_layer (λ part. part) x) ≡ quantity_layer counts total x
quantity_layer-erased counts total (Number numeral) = refl
quantity_layer-erased counts total (TotalCost at) = refl
quantity_layer-erased counts total (Violated name) = refl
quantity_layer-erased counts total (Neg at part) = refl
quantity_layer-erased counts total (Sub at first second) = refl
quantity_layer-erased counts total (Sum at parts) = ap sum_of (map-id parts)
quantity_layer-erased counts total (Product at parts) = ap product_of (map-id parts)

direction_by-erased : (metric : Option Metric) → direction_by (option_map erased_metric metric) ≡ direction_by metric
direction_by-erased None = refl
direction_by-erased (Some metric) = refl

module _ (T : Task) where
  pub quantity-erased : (counts : Name → ℕ) (total : ℕ) (num : Num) → quantity (erased T) counts total (erased_num num) ≡ quantity T counts total num
  unfolding quantity
  quantity-erased counts total num =
      ap (λ places. fold_num (quantity_layer counts (record { places = places; units = pos total })) (erased_num num)) (cost_places-erased T)
      ∙ fold_num-erased (quantity_layer counts _) (quantity_layer counts _) (λ part. part) (quantity_layer-erased counts (record { places = cost_places T; units = pos total })) num

  quantity_by-erased : (counts : Name → ℕ) (total : ℕ) (metric : Option Metric) → quantity_by (erased T) counts total (option_map erased_metric metric) ≡ quantity_by T counts total metric
  quantity_by-erased counts total None = refl
  quantity_by-erased counts total (Some metric) = quantity-erased counts total metric.body

  metric_quantity-erased : (counts : Name → ℕ) (total : ℕ) → metric_quantity (erased T) counts total ≡ metric_quantity T counts total
  metric_quantity-erased counts total = quantity_by-erased counts total T.problem.metric

  pub metric_places-erased : metric_places (erased T) ≡ metric_places T
  unfolding metric_places
  metric_places-erased = ap (λ (whole : Quantity). whole.places) (metric_quantity-erased no_counts 0)

  loss_at-erased : (counts : Name → ℕ) (total : ℕ) → loss_at (erased T) counts total ≡ loss_at T counts total
  loss_at-erased counts total = λ i. signed (direction_by-erased T.problem.metric i) (metric_quantity-erased counts total i).units

  pub value-erased : (plan : Plan) → value (erased T) plan ≡ value T plan
  unfolding value
  value-erased plan = ap (λ (whole : Quantity). whole.units) ((λ i. metric_quantity (erased T) (λ name. violated-erased T plan name i) (cost-erased T plan i)) ∙ metric_quantity-erased (violated T plan) (cost T plan))

  pub loss-erased : (plan : Plan) → loss (erased T) plan ≡ loss T plan
  unfolding loss
  loss-erased plan = (λ i. loss_at (erased T) (λ name. violated-erased T plan name i) (cost-erased T plan i)) ∙ loss_at-erased (violated T plan) (cost T plan)

  pub base_loss-erased : base_loss (erased T) ≡ base_loss T
  unfolding base_loss
  base_loss-erased = ap (loss_at (erased T) no_counts) (initial_cost-erased T) ∙ loss_at-erased no_counts (initial_cost T)

  pub weight-erased : (name : Name) → weight (erased T) name ≡ weight T name
  unfolding weight
  weight-erased name = λ i. (ap (loss_at (erased T) (one_count name)) (initial_cost-erased T) ∙ loss_at-erased (one_count name) (initial_cost T)) i -ℤ base_loss-erased i

  pub cost_weight-erased : cost_weight (erased T) ≡ cost_weight T
  unfolding cost_weight
  cost_weight-erased = λ i. (ap (λ total. loss_at (erased T) no_counts (total + 1)) (initial_cost-erased T) ∙ loss_at-erased no_counts (initial_cost T + 1)) i -ℤ base_loss-erased i
