-- Plain tasks, tasks without variables, and steps by number.
use Rattle.std.specs.Prelude.{ℕ, ◌==◌, Bool, true, false, not, ◌&&◌, List, map, flat_map, filter_map, find, Option, Some, None, option_map, IsTrue}
use Rattle.std.specs.List.{list_any, list_all, enumerate_from}
use Rattle.p3_base.specs.declared.refusal.Direction.{Direction}
use Rattle.p3_base.specs.declared.refusal.Direction.TheVariants.{Minimize}
use Rattle.p3_base.specs.Copies.{is_copy_of}
use Rattle.p3_task.specs.Folds.{fold_formula, fold_effect, fold_goal, fold_constraint}
use Rattle.p3_task.specs.Names.{is_empty}
use Rattle.p3_task.specs.Bindings.{tuples}
use Rattle.p3_task.specs.Costs.{initial_cost}
use Rattle.p3_task.specs.Plans.{Plan}
use Rattle.p3_task.specs.declared.formula.Formula.{Formula}
use Rattle.p3_task.specs.declared.formula.Formula.TheOpen as formula
use Rattle.p3_task.specs.declared.effect.Effect.{Effect}
use Rattle.p3_task.specs.declared.effect.Effect.TheOpen as effect
use Rattle.p3_task.specs.declared.goal.PreGoal.{PreGoal}
use Rattle.p3_task.specs.declared.goal.PreGoal.TheOpen as goal
use Rattle.p3_task.specs.Modal.{Modal}
use Rattle.p3_base.specs.Operators.{all}
use Rattle.p3_task.specs.declared.constraint.Constraint.{Constraint}
use Rattle.p3_task.specs.declared.constraint.Constraint.TheOpen as constraint
use Rattle.p3_task.specs.declared.metric.Metric.{Metric}
use Rattle.p3_task.specs.declared.metric.Num.{Num}
use Rattle.p3_task.specs.declared.metric.Num.TheVariants.{TotalCost}
use Rattle.p3_task.specs.declared.task.Action.{Action}
use Rattle.p3_task.specs.declared.task.Step.{Step}
use Rattle.p3_task.specs.declared.task.Task.{Task}

-- ---- plain tasks

-- whether an operator or a preference stands in constraints
abbrev pub constrains_layer : constraint.Constraint-F Bool → Bool
constrains_layer (constraint.Both parts) = list_any (λ part. part) parts
constrains_layer (constraint.Each variables body) = body
constrains_layer (constraint.Single operator) = true
constrains_layer (constraint.Soft at name body) = true

unfoldable pub constrains : Constraint → Bool
constrains tree = fold_constraint constrains_layer tree

-- whether a preference stands in a precondition or goal
abbrev pub prefers_layer : goal.PreGoal-F Bool → Bool
prefers_layer (goal.Plain body) = false
prefers_layer (goal.Both parts) = list_any (λ part. part) parts
prefers_layer (goal.Each variables body) = body
prefers_layer (goal.Soft pref) = true

unfoldable pub prefers : PreGoal → Bool
prefers tree = fold_goal prefers_layer tree

-- whether small total costs are what the metric asks for
abbrev pub is_cost_metric : Option Metric → Bool
is_cost_metric None = false
is_cost_metric (Some metric) = is_least_cost metric.direction metric.body
  where
    is_least_cost : Direction → Num → Bool
    is_least_cost Minimize (TotalCost at) = true
    is_least_cost _ _ = false

-- no constraint, no preference, no cost before the first step, and the metric `minimize (total-cost)`
unfoldable pub is_plain : Task → Bool
is_plain T = not (constrains T.domain.constraints.body) && not (constrains T.problem.constraints.body) && not (list_any (λ action. prefers action.pre.body) T.domain.actions) && not (prefers T.problem.goal.body)
    && initial_cost T == 0 && is_cost_metric T.problem.metric

abbrev pub Plain : Task → Type 0
Plain T = IsTrue (is_plain T)

-- ---- tasks without variables

abbrev pub formula_layer : formula.Formula-F Bool → Bool
formula_layer (formula.Atom pred args) = true
formula_layer (formula.Equal left right) = false
formula_layer (formula.And parts) = list_all (λ part. part) parts
formula_layer (formula.Or parts) = list_all (λ part. part) parts
formula_layer (formula.Not part) = part
formula_layer (formula.Imply first second) = first && second
formula_layer (formula.Exists variables body) = false
formula_layer (formula.Forall variables body) = false

unfoldable pub is_formula_variable_free : Formula → Bool
is_formula_variable_free tree = fold_formula formula_layer tree

abbrev pub effect_layer : effect.Effect-F Bool → Bool
effect_layer (effect.Add pred args) = true
effect_layer (effect.Del pred args) = true
effect_layer (effect.All parts) = list_all (λ part. part) parts
effect_layer (effect.Each variables body) = false
effect_layer (effect.If condition body) = is_formula_variable_free condition && body
effect_layer (effect.Cost at amount) = true

unfoldable pub is_effect_variable_free : Effect → Bool
is_effect_variable_free tree = fold_effect effect_layer tree

abbrev pub goal_layer : goal.PreGoal-F Bool → Bool
goal_layer (goal.Plain body) = is_formula_variable_free body
goal_layer (goal.Both parts) = list_all (λ part. part) parts
goal_layer (goal.Each variables body) = false
goal_layer (goal.Soft pref) = is_formula_variable_free pref.body

unfoldable pub is_goal_variable_free : PreGoal → Bool
is_goal_variable_free tree = fold_goal goal_layer tree

abbrev pub is_modal_variable_free : Modal → Bool
is_modal_variable_free modal = all is_formula_variable_free modal

abbrev pub constraint_layer : constraint.Constraint-F Bool → Bool
constraint_layer (constraint.Both parts) = list_all (λ part. part) parts
constraint_layer (constraint.Each variables body) = false
constraint_layer (constraint.Single operator) = is_modal_variable_free operator
constraint_layer (constraint.Soft at name body) = body

unfoldable pub is_constraint_variable_free : Constraint → Bool
is_constraint_variable_free tree = fold_constraint constraint_layer tree

abbrev pub is_action_variable_free : Action → Bool
is_action_variable_free action = is_empty action.params && is_goal_variable_free action.pre.body && is_effect_variable_free action.effect.body

-- no types, constants, objects, parameters, quantifiers or equalities
unfoldable pub is_variable_free : Task → Bool
is_variable_free T = is_empty T.domain.kinds && is_empty T.domain.constants && is_empty T.problem.objects
    && list_all (λ header. is_empty header.params) T.domain.predicates && list_all (λ header. is_empty header.params) T.domain.functions && list_all is_action_variable_free T.domain.actions
    && is_constraint_variable_free T.domain.constraints.body && is_goal_variable_free T.problem.goal.body && is_constraint_variable_free T.problem.constraints.body

abbrev pub IsVariableFree : Task → Type 0
IsVariableFree T = IsTrue (is_variable_free T)

-- ---- steps by number

abbrev pub steps_of : Task → Action → List Step
steps_of T action = map (λ tuple. record { action = action.name.name; args = tuple }) (tuples T action.params)

-- all steps whose arguments fit: the actions in text order, the first argument changing slowest
unfoldable pub steps : Task → List Step
steps T = flat_map (steps_of T) T.domain.actions

-- a step of the written task counts as the step of a number where its name has the prefix of that number, and it has no arguments
abbrev pub counts_as : Step → ℕ × Step → Bool
counts_as written numbered = is_empty written.args && is_copy_of numbered.0 written.action

-- the step as which a step of the written task counts, if it does
unfoldable pub lifted_step : Task → Step → Option Step
lifted_step T written = option_map (λ (numbered : ℕ × Step). numbered.1) (find (counts_as written) (enumerate_from 0 (steps T)))

-- the steps as which the written steps count; the others are dropped
unfoldable pub lift : Task → Plan → Plan
lift T plan = filter_map (lifted_step T) plan
