-- The counts for limits are the same without offsets.
use Rattle.std.proofs.Common.{◌≡◌, ◌∙◌, ℕ, ◌+◌, ◌*◌, refl, ap, List, [], map, length, Option, None, Some, cond, pos, ◌+ℤ◌, ◌-ℤ◌, ◌*ℤ◌}
use Rattle.std.specs.Prelude.{if◌then◌else◌, fold, sum, sum_by, max, int_lt}
use Rattle.std.proofs.lemmas.List.{map-id}
use Rattle.p3_task.specs.Names.{Name, same_name}
use Rattle.p3_task.specs.Goals.{StatePref}
use Rattle.p3_task.specs.Costs.{increases}
use Rattle.p3_task.specs.Metrics.{Quantity, quantity, no_counts, one_count}
use Rattle.p3_task.specs.Limits.{binding_count, formula_size, formula_layer, effect_size, effect_layer, goal_size, goal_layer, modal_size, constraint_size, constraint_layer, weight_of, action_prefs, width, value_of_entry, greatest_amount, cost_bound, constant, coefficient, cost_coefficient}
use Rattle.p3_task.specs.Erased.{erased_typed, erased_all_typed, erased_amount, erased_formula, erased_effect, erased_goal, erased_modal, erased_constraint, erased_num, erased_action, erased_init, erased, erased_state_pref}
use Rattle.p3_task.proofs.Erased.Along.{fold_along, map_along, filter_map_along}
use Rattle.p3_task.proofs.Erased.Folds.{erased_formula_layer, fold_formula-erased, erased_effect_layer, fold_effect-erased, erased_goal_layer, fold_goal-erased, erased_constraint_layer, fold_constraint-erased}
use Rattle.p3_task.proofs.Erased.Words.{objects-erased}
use Rattle.p3_task.proofs.Erased.Meanings.{prefs-erased, increases-erased, cost_units-erased}
use Rattle.p3_task.proofs.Erased.Plans.{quantity-erased, weight-erased, cost_weight-erased}
use Rattle.p3_task.specs.declared.term.Typed.{Typed}
use Rattle.p3_task.specs.declared.formula.Formula.{Formula, Formula-F}
use Rattle.p3_task.specs.declared.formula.Formula.TheOpen as formula
use Rattle.p3_task.specs.declared.effect.Amount.{Amount}
use Rattle.p3_task.specs.declared.effect.Amount.TheVariants as amount
use Rattle.p3_task.specs.declared.effect.Effect.{Effect, Effect-F}
use Rattle.p3_task.specs.declared.effect.Effect.TheOpen as effect
use Rattle.p3_task.specs.declared.goal.PreGoal.{PreGoal, PreGoal-F}
use Rattle.p3_task.specs.declared.goal.PreGoal.TheOpen as goal
use Rattle.p3_task.specs.Modal.{Modal}
use Rattle.p3_base.proofs.OperatorLaws.{formulas_over}
use Rattle.p3_base.specs.Operators.{formulas_of}
use Rattle.p3_task.specs.declared.constraint.Constraint.{Constraint, Constraint-F}
use Rattle.p3_task.specs.declared.constraint.Constraint.TheOpen as constraint
use Rattle.p3_task.specs.declared.metric.Num.{Num}
use Rattle.p3_task.specs.declared.task.Action.{Action}
use Rattle.p3_task.specs.declared.task.Init.{Init}
use Rattle.p3_task.specs.declared.task.Init.TheVariants as init
use Rattle.p3_task.specs.declared.task.Task.{Task}

abbrev itself : ℕ → ℕ
itself size = size

sum_of_parts : (parts : List ℕ) → 1 + sum (map itself parts) ≡ 1 + sum parts
sum_of_parts parts = ap (λ sizes. 1 + sum sizes) (map-id parts)

module _ (T : Task) where
  pub binding_count-erased : (variables : List Typed) → binding_count (erased T) (erased_all_typed variables) ≡ binding_count T variables
  unfolding binding_count
  binding_count-erased variables = fold_along erased_typed _ _ (λ product variable i. product * length (objects-erased T variable.types i)) 1 variables

  formula_layer-erased : (x : Formula-F ℕ) → formula_layer (erased T) (erased_formula_layer itself x) ≡ formula_layer T x
  formula_layer-erased (formula.And parts) = sum_of_parts parts
  formula_layer-erased (formula.Or parts) = sum_of_parts parts
  formula_layer-erased (formula.Exists variables body) = ap (λ many. 1 + many * body) (binding_count-erased variables)
  formula_layer-erased (formula.Forall variables body) = ap (λ many. 1 + many * body) (binding_count-erased variables)
  formula_layer-erased _ = refl

  pub formula_size-erased : (f : Formula) → formula_size (erased T) (erased_formula f) ≡ formula_size T f
  unfolding formula_size
  formula_size-erased f = fold_formula-erased (formula_layer T) (formula_layer (erased T)) itself formula_layer-erased f

  effect_layer-erased : (x : Effect-F ℕ) → effect_layer (erased T) (erased_effect_layer itself x) ≡ effect_layer T x
  effect_layer-erased (effect.All parts) = sum_of_parts parts
  effect_layer-erased (effect.Each variables body) = ap (λ many. 1 + many * body) (binding_count-erased variables)
  effect_layer-erased (effect.If condition body) = ap (λ size. 1 + size + body) (formula_size-erased condition)
  effect_layer-erased _ = refl

  pub effect_size-erased : (e : Effect) → effect_size (erased T) (erased_effect e) ≡ effect_size T e
  unfolding effect_size
  effect_size-erased e = fold_effect-erased (effect_layer T) (effect_layer (erased T)) itself effect_layer-erased e

  goal_layer-erased : (x : PreGoal-F ℕ) → goal_layer (erased T) (erased_goal_layer itself x) ≡ goal_layer T x
  goal_layer-erased (goal.Plain body) = formula_size-erased body
  goal_layer-erased (goal.Both parts) = sum_of_parts parts
  goal_layer-erased (goal.Each variables body) = ap (λ many. 1 + many * body) (binding_count-erased variables)
  goal_layer-erased (goal.Soft pref) = ap (λ size. 1 + size) (formula_size-erased pref.body)

  pub goal_size-erased : (g : PreGoal) → goal_size (erased T) (erased_goal g) ≡ goal_size T g
  unfolding goal_size
  goal_size-erased g = fold_goal-erased (goal_layer T) (goal_layer (erased T)) itself goal_layer-erased g

  modal_size-erased : (m : Modal) → modal_size (erased T) (erased_modal m) ≡ modal_size T m
  modal_size-erased m = ap (fold grown 1) (formulas_over erased_formula m) ∙ fold_along erased_formula grown (λ size formula. size + formula_size T formula) (λ size formula. ap (λ more. size + more) (formula_size-erased formula)) 1 (formulas_of m)
    where
      grown : ℕ → Formula → ℕ
      grown size formula = size + formula_size (erased T) formula

  constraint_layer-erased : (x : Constraint-F ℕ) → constraint_layer (erased T) (erased_constraint_layer itself x) ≡ constraint_layer T x
  constraint_layer-erased (constraint.Both parts) = sum_of_parts parts
  constraint_layer-erased (constraint.Each variables body) = ap (λ many. 1 + many * body) (binding_count-erased variables)
  constraint_layer-erased (constraint.Single operator) = modal_size-erased operator
  constraint_layer-erased (constraint.Soft at name body) = refl

  pub constraint_size-erased : (c : Constraint) → constraint_size (erased T) (erased_constraint c) ≡ constraint_size T c
  unfolding constraint_size
  constraint_size-erased c = fold_constraint-erased (constraint_layer T) (constraint_layer (erased T)) itself constraint_layer-erased c

  -- ---- weights at an action

  weight_of-erased : (name : Option Name) → weight_of (erased T) name ≡ weight_of T name
  weight_of-erased None = refl
  weight_of-erased (Some name) = weight-erased T name

  action_prefs-erased : (action : Action) → action_prefs (erased T) (erased_action action) ≡ map erased_state_pref (action_prefs T action)
  action_prefs-erased action = prefs-erased T [] action.pre.body

  pub width-erased : (action : Action) → width (erased T) (erased_action action) ≡ width T action
  unfolding width
  width-erased action =
      ap (fold (λ count (pref : StatePref). count + cond (int_lt (pos 0) (weight_of (erased T) pref.name)) 1 0) 0) (action_prefs-erased action)
      ∙ fold_along erased_state_pref _ _ (λ count pref i. count + cond (int_lt (pos 0) (weight_of-erased pref.name i)) 1 0) 0 (action_prefs T action)

  value_of_entry-erased : (function : Name) (entry : Init) → value_of_entry (erased T) function (erased_init entry) ≡ value_of_entry T function entry
  value_of_entry-erased function (init.Value other args number) = ap (λ units. if same_name other.name function then Some units else None) (cost_units-erased T number)
  value_of_entry-erased function _ = refl

  greatest_amount-erased : (a : Amount) → greatest_amount (erased T) (erased_amount a) ≡ greatest_amount T a
  greatest_amount-erased (amount.Number numeral) = cost_units-erased T numeral
  greatest_amount-erased (amount.Value function args) = ap (fold max 0) (filter_map_along erased_init (value_of_entry (erased T) function.name) (value_of_entry T function.name) (value_of_entry-erased function.name) T.problem.init)

  amounts-erased : (action : Action) → sum_by (greatest_amount (erased T)) (increases (erased_action action).effect.body) ≡ sum_by (greatest_amount T) (increases action.effect.body)
  amounts-erased action = ap (sum_by (greatest_amount (erased T))) (increases-erased action.effect.body) ∙ fold_along erased_amount _ _ (λ sum a i. sum + greatest_amount-erased a i) 0 (increases action.effect.body)

  weights-erased : (action : Action) → map (λ (pref : StatePref). weight_of (erased T) pref.name) (action_prefs (erased T) (erased_action action)) ≡ map (λ (pref : StatePref). weight_of T pref.name) (action_prefs T action)
  weights-erased action = ap (map (λ (pref : StatePref). weight_of (erased T) pref.name)) (action_prefs-erased action) ∙ map_along erased_state_pref _ _ (λ pref. weight_of-erased pref.name) (action_prefs T action)

  pub cost_bound-erased : (action : Action) → cost_bound (erased T) (erased_action action) ≡ cost_bound T action
  unfolding cost_bound
  cost_bound-erased action = λ i. cost_weight-erased T i *ℤ pos (amounts-erased action i) +ℤ fold ◌+ℤ◌ (pos 0) (weights-erased action i)

  -- ---- coefficients

  units-erased : (counts : Name → ℕ) (total : ℕ) (num : Num) → (quantity (erased T) counts total (erased_num num)).units ≡ (quantity T counts total num).units
  units-erased counts total num = ap (λ (whole : Quantity). whole.units) (quantity-erased T counts total num)

  pub constant-erased : (num : Num) → constant (erased T) (erased_num num) ≡ constant T num
  constant-erased num = units-erased no_counts 0 num

  pub coefficient-erased : (num : Num) (name : Name) → coefficient (erased T) (erased_num num) name ≡ coefficient T num name
  coefficient-erased num name = λ i. units-erased (one_count name) 0 num i -ℤ constant-erased num i

  pub cost_coefficient-erased : (num : Num) → cost_coefficient (erased T) (erased_num num) ≡ cost_coefficient T num
  cost_coefficient-erased num = λ i. units-erased no_counts 1 num i -ℤ constant-erased num i
