-- The counts on which limits are set.
use Rattle.std.specs.Prelude.{ℕ, ◌+◌, ◌*◌, max, ℤ, pos, ◌+ℤ◌, ◌-ℤ◌, ◌*ℤ◌, int_lt, List, map, filter_map, fold, sum, sum_by, count_by, [], length, if◌then◌else◌, Option, Some, None}
use Rattle.p3_task.specs.Folds.{fold_formula, fold_effect, fold_goal, fold_constraint}
use Rattle.p3_task.specs.Names.{Name, same_name}
use Rattle.p3_task.specs.Types.{objects}
use Rattle.p3_task.specs.Goals.{StatePref, prefs}
use Rattle.p3_task.specs.Costs.{cost_units, increases}
use Rattle.p3_task.specs.Constraints.{instances}
use Rattle.p3_task.specs.Metrics.{quantity, no_counts, one_count, weight, cost_weight}
use Rattle.p3_task.specs.Lifting.{steps}
use Rattle.p3_task.specs.declared.term.Typed.{Typed}
use Rattle.p3_task.specs.declared.formula.Formula.{Formula}
use Rattle.p3_task.specs.declared.formula.Formula.TheOpen as formula
use Rattle.p3_task.specs.declared.effect.Amount.{Amount}
use Rattle.p3_task.specs.declared.effect.Amount.TheVariants as amount
use Rattle.p3_task.specs.declared.effect.Effect.{Effect}
use Rattle.p3_task.specs.declared.effect.Effect.TheOpen as effect
use Rattle.p3_task.specs.declared.goal.PreGoal.{PreGoal}
use Rattle.p3_task.specs.declared.goal.PreGoal.TheOpen as goal
use Rattle.p3_task.specs.Modal.{Modal}
use Rattle.p3_base.specs.Operators.{formulas_of}
use Rattle.p3_task.specs.declared.constraint.Constraint.{Constraint}
use Rattle.p3_task.specs.declared.constraint.Constraint.TheOpen as constraint
use Rattle.p3_task.specs.declared.metric.Num.{Num}
use Rattle.p3_task.specs.declared.task.Action.{Action}
use Rattle.p3_task.specs.declared.task.Init.{Init}
use Rattle.p3_task.specs.declared.task.Init.TheVariants as init
use Rattle.p3_task.specs.declared.task.Task.{Task}

-- ---- steps and instances

abbrev pub step_count : Task → ℕ
step_count T = length (steps T)

abbrev pub instance_count : Task → ℕ
instance_count T = length (instances T)

-- ---- the size of a tree once its quantifiers are expanded

-- the product of the numbers of objects
unfoldable pub binding_count : Task → List Typed → ℕ
binding_count T variables = fold (λ product variable. product * length (objects T variable.types)) 1 variables

abbrev pub formula_layer : Task → formula.Formula-F ℕ → ℕ
formula_layer T (formula.Atom pred args) = 1
formula_layer T (formula.Equal left right) = 1
formula_layer T (formula.And parts) = 1 + sum parts
formula_layer T (formula.Or parts) = 1 + sum parts
formula_layer T (formula.Not part) = 1 + part
formula_layer T (formula.Imply first second) = 1 + first + second
formula_layer T (formula.Exists variables body) = 1 + binding_count T variables * body
formula_layer T (formula.Forall variables body) = 1 + binding_count T variables * body

unfoldable pub formula_size : Task → Formula → ℕ
formula_size T tree = fold_formula (formula_layer T) tree

abbrev pub effect_layer : Task → effect.Effect-F ℕ → ℕ
effect_layer T (effect.Add pred args) = 1
effect_layer T (effect.Del pred args) = 1
effect_layer T (effect.All parts) = 1 + sum parts
effect_layer T (effect.Each variables body) = 1 + binding_count T variables * body
effect_layer T (effect.If condition body) = 1 + formula_size T condition + body
effect_layer T (effect.Cost at increase) = 1

unfoldable pub effect_size : Task → Effect → ℕ
effect_size T tree = fold_effect (effect_layer T) tree

abbrev pub goal_layer : Task → goal.PreGoal-F ℕ → ℕ
goal_layer T (goal.Plain body) = formula_size T body
goal_layer T (goal.Both parts) = 1 + sum parts
goal_layer T (goal.Each variables body) = 1 + binding_count T variables * body
goal_layer T (goal.Soft pref) = 1 + formula_size T pref.body

unfoldable pub goal_size : Task → PreGoal → ℕ
goal_size T tree = fold_goal (goal_layer T) tree

abbrev pub modal_size : Task → Modal → ℕ
modal_size T modal = fold (λ (size : ℕ) (formula : Formula). size + formula_size T formula) 1 (formulas_of modal)

abbrev pub constraint_layer : Task → constraint.Constraint-F ℕ → ℕ
constraint_layer T (constraint.Both parts) = 1 + sum parts
constraint_layer T (constraint.Each variables body) = 1 + binding_count T variables * body
constraint_layer T (constraint.Single operator) = modal_size T operator
constraint_layer T (constraint.Soft at name body) = 1 + body

unfoldable pub constraint_size : Task → Constraint → ℕ
constraint_size T tree = fold_constraint (constraint_layer T) tree

-- ---- weights at an action

-- an unnamed preference has no weight
abbrev pub weight_of : Task → Option Name → ℤ
weight_of T None = pos 0
weight_of T (Some name) = weight T name

-- the preferences of a precondition; how many they are, and their names, is the same for all arguments
abbrev pub action_prefs : Task → Action → List StatePref
action_prefs T action = prefs T [] action.pre.body

-- the split width: how many preferences of the precondition have a weight above 0
unfoldable pub width : Task → Action → ℕ
width T action = count_by (λ (pref : StatePref). int_lt (pos 0) (weight_of T pref.name)) (action_prefs T action)

-- the value, where the entry is of the function
abbrev pub value_of_entry : Task → Name → Init → Option ℕ
value_of_entry T function (init.Value other args number) = if same_name other.name function then Some (cost_units T number) else None
value_of_entry T function (init.True pred args) = None
value_of_entry T function (init.False pred args) = None

-- the number, or the greatest value that the initial state gives to the function, 0 where it gives none
abbrev pub greatest_amount : Task → Amount → ℕ
greatest_amount T (amount.Number numeral) = cost_units T numeral
greatest_amount T (amount.Value function args) = fold max 0 (filter_map (value_of_entry T function.name) T.problem.init)

-- the cost bound: the weighted costs, and the weights of all preferences of the precondition
unfoldable pub cost_bound : Task → Action → ℤ
cost_bound T action = cost_weight T *ℤ pos (sum_by (greatest_amount T) (increases action.effect.body)) +ℤ fold ◌+ℤ◌ (pos 0) (map (λ (pref : StatePref). weight_of T pref.name) (action_prefs T action))

-- ---- coefficients of a metric expression, in its own units

-- where all counts and the total cost are 0
abbrev pub constant : Task → Num → ℤ
constant T num = (quantity T no_counts 0 num).units

-- what one count adds, and what one unit of the total cost adds
abbrev pub coefficient : Task → Num → Name → ℤ
coefficient T num name = (quantity T (one_count name) 0 num).units -ℤ constant T num

abbrev pub cost_coefficient : Task → Num → ℤ
cost_coefficient T num = (quantity T no_counts 1 num).units -ℤ constant T num
