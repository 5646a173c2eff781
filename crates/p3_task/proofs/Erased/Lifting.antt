-- Plain tasks, tasks without variables, steps and lifting are the same without offsets.
use Rattle.std.proofs.Common.{◌≡◌, ◌∙◌, ℕ, refl, ap, Bool, not, ◌&&◌, List, [], ◌∷◌, map, Option, None, Some, eqb}
use Rattle.std.specs.Prelude.{filter_map, find, option_map}
use Rattle.std.specs.List.{list_any, list_all, enumerate_from}
use Rattle.p3_base.specs.declared.refusal.Direction.{Direction}
use Rattle.p3_base.specs.declared.refusal.Direction.TheVariants.{Minimize, Maximize}
use Rattle.p3_task.specs.Names.{is_empty}
use Rattle.p3_task.specs.Plans.{Plan}
use Rattle.p3_task.specs.Lifting.{constrains, constrains_layer, prefers, prefers_layer, is_cost_metric, is_plain, is_formula_variable_free, formula_layer, is_effect_variable_free, effect_layer, is_goal_variable_free, goal_layer, is_modal_variable_free, is_constraint_variable_free, constraint_layer, is_action_variable_free, is_variable_free, steps_of, steps, counts_as, lifted_step, lift}
use Rattle.p3_task.specs.Erased.{erased_typed, erased_formula, erased_effect, erased_goal, erased_modal, erased_constraint, erased_num, erased_metric, erased_kind, erased_header, erased_action, erased}
use Rattle.p3_task.proofs.Erased.Along.{any_along, all_along, flat_map_along}
use Rattle.p3_task.proofs.Erased.Folds.{erased_formula_layer, fold_formula-erased, erased_effect_layer, fold_effect-erased, erased_goal_layer, fold_goal-erased, erased_constraint_layer, fold_constraint-erased}
use Rattle.p3_task.proofs.Erased.Words.{tuples-erased}
use Rattle.p3_task.proofs.Erased.Plans.{initial_cost-erased}
use Rattle.p3_task.specs.declared.formula.Formula.{Formula, Formula-F}
use Rattle.p3_task.specs.declared.formula.Formula.TheOpen as formula
use Rattle.p3_task.specs.declared.effect.Effect.{Effect, Effect-F}
use Rattle.p3_task.specs.declared.effect.Effect.TheOpen as effect
use Rattle.p3_task.specs.declared.goal.PreGoal.{PreGoal, PreGoal-F}
use Rattle.p3_task.specs.declared.goal.PreGoal.TheOpen as goal
use Rattle.p3_task.specs.Modal.{Modal}
use Rattle.p3_base.proofs.OperatorLaws.{joined_over, joined_same}
use Rattle.p3_task.specs.declared.constraint.Constraint.{Constraint, Constraint-F}
use Rattle.p3_task.specs.declared.constraint.Constraint.TheOpen as constraint
use Rattle.p3_task.specs.declared.metric.Metric.{Metric}
use Rattle.p3_task.specs.declared.metric.Num.{Num}
use Rattle.p3_task.specs.declared.metric.Num.TheVariants as num
use Rattle.p3_task.specs.declared.task.Action.{Action}
use Rattle.p3_task.specs.declared.task.Step.{Step}
use Rattle.p3_task.specs.declared.task.Task.{Task}

abbrev itself : {A : Type 0} → A → A
itself a = a

-- what is erased is as long
is_empty-map : {A B : Type 0} (f : A → B) (xs : List A) → is_empty (map f xs) ≡ is_empty xs
is_empty-map f [] = refl
is_empty-map f (x ∷ xs) = refl

all_parts : (parts : List Bool) → list_all (λ part. part) (map itself parts) ≡ list_all (λ part. part) parts
all_parts parts = all_along itself _ _ (λ part. refl) parts

any_part : (parts : List Bool) → list_any (λ part. part) (map itself parts) ≡ list_any (λ part. part) parts
any_part parts = any_along itself _ _ (λ part. refl) parts

-- ---- plain tasks

constrains_layer-erased : (x : Constraint-F Bool) → constrains_layer (erased_constraint_layer itself x) ≡ constrains_layer x
constrains_layer-erased (constraint.Both parts) = any_part parts
constrains_layer-erased _ = refl

constrains-erased : (c : Constraint) → constrains (erased_constraint c) ≡ constrains c
unfolding constrains
constrains-erased c = fold_constraint-erased constrains_layer constrains_layer itself constrains_layer-erased c

prefers_layer-erased : (x : PreGoal-F Bool) → prefers_layer (erased_goal_layer itself x) ≡ prefers_layer x
prefers_layer-erased (goal.Both parts) = any_part parts
prefers_layer-erased _ = refl

prefers-erased : (g : PreGoal) → prefers (erased_goal g) ≡ prefers g
unfolding prefers
prefers-erased g = fold_goal-erased prefers_layer prefers_layer itself prefers_layer-erased g

cost_metric-erased : (direction : Direction) (body : Num) → is_cost_metric (Some (record { direction = direction; body = erased_num body })) ≡ is_cost_metric (Some (record { direction = direction; body = body }))
cost_metric-erased Maximize body = refl
cost_metric-erased Minimize (num.Number numeral) = refl
cost_metric-erased Minimize (num.TotalCost at) = refl
cost_metric-erased Minimize (num.Violated name) = refl
cost_metric-erased Minimize (num.Neg' at _ part) = refl
cost_metric-erased Minimize (num.Sub' at _ first _ second) = refl
cost_metric-erased Minimize (num.Sum' at _ parts) = refl
cost_metric-erased Minimize (num.Product' at _ parts) = refl

is_cost_metric-erased : (metric : Option Metric) → is_cost_metric (option_map erased_metric metric) ≡ is_cost_metric metric
is_cost_metric-erased None = refl
is_cost_metric-erased (Some metric) = cost_metric-erased metric.direction metric.body

pub is_plain-erased : (T : Task) → is_plain (erased T) ≡ is_plain T
unfolding is_plain
is_plain-erased T = λ i. not (constrains-erased T.domain.constraints.body i) && not (constrains-erased T.problem.constraints.body i)
    && not (any_along erased_action (λ action. prefers action.pre.body) (λ action. prefers action.pre.body) (λ action. prefers-erased action.pre.body) T.domain.actions i) && not (prefers-erased T.problem.goal.body i)
    && eqb (initial_cost-erased T i) 0 && is_cost_metric-erased T.problem.metric i

-- ---- tasks without variables

formula_layer-erased : (x : Formula-F Bool) → formula_layer (erased_formula_layer itself x) ≡ formula_layer x
formula_layer-erased (formula.And parts) = all_parts parts
formula_layer-erased (formula.Or parts) = all_parts parts
formula_layer-erased _ = refl

is_formula_variable_free-erased : (f : Formula) → is_formula_variable_free (erased_formula f) ≡ is_formula_variable_free f
unfolding is_formula_variable_free
is_formula_variable_free-erased f = fold_formula-erased formula_layer formula_layer itself formula_layer-erased f

effect_layer-erased : (x : Effect-F Bool) → effect_layer (erased_effect_layer itself x) ≡ effect_layer x
effect_layer-erased (effect.All parts) = all_parts parts
effect_layer-erased (effect.If condition body) = ap (λ free. free && body) (is_formula_variable_free-erased condition)
effect_layer-erased _ = refl

is_effect_variable_free-erased : (e : Effect) → is_effect_variable_free (erased_effect e) ≡ is_effect_variable_free e
unfolding is_effect_variable_free
is_effect_variable_free-erased e = fold_effect-erased effect_layer effect_layer itself effect_layer-erased e

goal_layer-erased : (x : PreGoal-F Bool) → goal_layer (erased_goal_layer itself x) ≡ goal_layer x
goal_layer-erased (goal.Plain body) = is_formula_variable_free-erased body
goal_layer-erased (goal.Both parts) = all_parts parts
goal_layer-erased (goal.Each variables body) = refl
goal_layer-erased (goal.Soft pref) = is_formula_variable_free-erased pref.body

is_goal_variable_free-erased : (g : PreGoal) → is_goal_variable_free (erased_goal g) ≡ is_goal_variable_free g
unfolding is_goal_variable_free
is_goal_variable_free-erased g = fold_goal-erased goal_layer goal_layer itself goal_layer-erased g

is_modal_variable_free-erased : (m : Modal) → is_modal_variable_free (erased_modal m) ≡ is_modal_variable_free m
is_modal_variable_free-erased m = joined_over erased_formula ◌&&◌ is_formula_variable_free m ∙ joined_same ◌&&◌ _ is_formula_variable_free is_formula_variable_free-erased m

constraint_layer-erased : (x : Constraint-F Bool) → constraint_layer (erased_constraint_layer itself x) ≡ constraint_layer x
constraint_layer-erased (constraint.Both parts) = all_parts parts
constraint_layer-erased (constraint.Single operator) = is_modal_variable_free-erased operator
constraint_layer-erased _ = refl

is_constraint_variable_free-erased : (c : Constraint) → is_constraint_variable_free (erased_constraint c) ≡ is_constraint_variable_free c
unfolding is_constraint_variable_free
is_constraint_variable_free-erased c = fold_constraint-erased constraint_layer constraint_layer itself constraint_layer-erased c

is_action_variable_free-erased : (action : Action) → is_action_variable_free (erased_action action) ≡ is_action_variable_free action
is_action_variable_free-erased action = λ i. is_empty-map erased_typed action.params i && is_goal_variable_free-erased action.pre.body i && is_effect_variable_free-erased action.effect.body i

pub is_variable_free-erased : (T : Task) → is_variable_free (erased T) ≡ is_variable_free T
unfolding is_variable_free
is_variable_free-erased T = λ i. is_empty-map erased_kind T.domain.kinds i && is_empty-map erased_typed T.domain.constants i && is_empty-map erased_typed T.problem.objects i
    && all_along erased_header (λ header. is_empty header.params) (λ header. is_empty header.params) (λ header. is_empty-map erased_typed header.params) T.domain.predicates i
    && all_along erased_header (λ header. is_empty header.params) (λ header. is_empty header.params) (λ header. is_empty-map erased_typed header.params) T.domain.functions i
    && all_along erased_action is_action_variable_free is_action_variable_free is_action_variable_free-erased T.domain.actions i
    && is_constraint_variable_free-erased T.domain.constraints.body i && is_goal_variable_free-erased T.problem.goal.body i && is_constraint_variable_free-erased T.problem.constraints.body i

-- ---- steps and lifting

module _ (T : Task) where
  steps_of-erased : (action : Action) → steps_of (erased T) (erased_action action) ≡ steps_of T action
  steps_of-erased action = λ i. map (λ tuple. record { action = action.name.name; args = tuple }) (tuples-erased T action.params i)

  pub steps-erased : steps (erased T) ≡ steps T
  unfolding steps
  steps-erased = flat_map_along erased_action (steps_of (erased T)) (steps_of T) steps_of-erased T.domain.actions

  lifted_step-erased : (written : Step) → lifted_step (erased T) written ≡ lifted_step T written
  unfolding lifted_step
  lifted_step-erased written = ap (λ list. option_map (λ (numbered : ℕ × Step). numbered.1) (find (counts_as written) (enumerate_from 0 list))) steps-erased

  pub lift-erased : (plan : Plan) → lift (erased T) plan ≡ lift T plan
  unfolding lift
  lift-erased plan = λ i. filter_map (λ written. lifted_step-erased written i) plan
