-- What the texts of a task use: its names at their places, with the variables in scope.
use Rattle.std.specs.Prelude.{List, [], ◌∷◌, ◌++◌, map, flat_map, Option, Some, None}
use Rattle.p3_task.specs.Folds.{fold_formula, fold_effect, fold_goal, fold_constraint, fold_num}
use Rattle.p3_task.specs.Names.{Name, total_cost}
use Rattle.p3_task.specs.Types.{type_names}
use Rattle.p3_task.specs.declared.term.Ref.{Ref}
use Rattle.p3_task.specs.declared.term.Term.{Term}
use Rattle.p3_task.specs.declared.term.Typed.{Typed}
use Rattle.p3_task.specs.declared.formula.Formula.{Formula}
use Rattle.p3_task.specs.declared.formula.Formula.TheOpen as formula
use Rattle.p3_task.specs.declared.effect.Amount.{Amount}
use Rattle.p3_task.specs.declared.effect.Amount.TheVariants as amount
use Rattle.p3_task.specs.declared.effect.Effect.{Effect}
use Rattle.p3_task.specs.declared.effect.Effect.TheOpen as effect
use Rattle.p3_task.specs.declared.goal.PreGoal.{PreGoal}
use Rattle.p3_task.specs.declared.goal.PreGoal.TheOpen as goal
use Rattle.p3_task.specs.Modal.{Modal}
use Rattle.p3_base.specs.Operators.{each}
use Rattle.p3_task.specs.declared.constraint.Constraint.{Constraint}
use Rattle.p3_task.specs.declared.constraint.Constraint.TheOpen as constraint
use Rattle.p3_task.specs.declared.metric.Num.{Num}
use Rattle.p3_task.specs.declared.metric.Num.TheOpen as num
use Rattle.p3_task.specs.declared.metric.Metric.{Metric}
use Rattle.p3_task.specs.declared.task.Action.{Action}
use Rattle.p3_task.specs.declared.task.Header.{Header}
use Rattle.p3_task.specs.declared.task.Init.{Init}
use Rattle.p3_task.specs.declared.task.Init.TheVariants as init
use Rattle.p3_task.specs.declared.task.Domain.{Domain}
use Rattle.p3_task.specs.declared.task.Problem.{Problem}

-- the variables in scope with the names of their types, the innermost first
abbrev pub Scope : Type 0
Scope = List (Name × List Name)

abbrev pub scope_of : List Typed → Scope
scope_of variables = map (λ variable. (variable.name.name, type_names variable.types)) variables

pub data Use : Type 0 where
  -- constants or objects are declared
  Objects : (objects : List Typed) → Use
  -- a list of variables is declared
  Variables : (variables : List Typed) → Use
  -- a predicate at arguments
  AtomUse : (pred : Ref) → (args : List Term) → (scope : Scope) → Use
  -- a function at arguments
  FunctionUse : (function : Ref) → (args : List Term) → (scope : Scope) → Use
  -- a side of an equality
  SideUse : (side : Term) → (scope : Scope) → Use
  -- the name of a preference in the metric
  NameUse : (name : Ref) → Use

abbrev pub formula_layer : formula.Formula-F (Scope → List Use) → Scope → List Use
formula_layer (formula.Atom pred args) scope = AtomUse pred args scope ∷ []
formula_layer (formula.Equal left right) scope = SideUse left scope ∷ SideUse right scope ∷ []
formula_layer (formula.And parts) scope = flat_map (λ part. part scope) parts
formula_layer (formula.Or parts) scope = flat_map (λ part. part scope) parts
formula_layer (formula.Not part) scope = part scope
formula_layer (formula.Imply first second) scope = first scope ++ second scope
formula_layer (formula.Exists variables body) scope = Variables variables ∷ body (scope_of variables ++ scope)
formula_layer (formula.Forall variables body) scope = Variables variables ∷ body (scope_of variables ++ scope)

unfoldable pub formula_uses : Formula → Scope → List Use
formula_uses tree = fold_formula formula_layer tree

abbrev pub amount_uses : Amount → Scope → List Use
amount_uses (amount.Number numeral) scope = []
amount_uses (amount.Value function args) scope = FunctionUse function args scope ∷ []

abbrev pub effect_layer : effect.Effect-F (Scope → List Use) → Scope → List Use
effect_layer (effect.Add pred args) scope = AtomUse pred args scope ∷ []
effect_layer (effect.Del pred args) scope = AtomUse pred args scope ∷ []
effect_layer (effect.All parts) scope = flat_map (λ part. part scope) parts
effect_layer (effect.Each variables body) scope = Variables variables ∷ body (scope_of variables ++ scope)
effect_layer (effect.If condition body) scope = formula_uses condition scope ++ body scope
effect_layer (effect.Cost at increase) scope = FunctionUse (record { name = total_cost; at = at }) [] scope ∷ amount_uses increase scope

unfoldable pub effect_uses : Effect → Scope → List Use
effect_uses tree = fold_effect effect_layer tree

abbrev pub goal_layer : goal.PreGoal-F (Scope → List Use) → Scope → List Use
goal_layer (goal.Plain body) scope = formula_uses body scope
goal_layer (goal.Both parts) scope = flat_map (λ part. part scope) parts
goal_layer (goal.Each variables body) scope = Variables variables ∷ body (scope_of variables ++ scope)
goal_layer (goal.Soft pref) scope = formula_uses pref.body scope

unfoldable pub goal_uses : PreGoal → Scope → List Use
goal_uses tree = fold_goal goal_layer tree

abbrev pub modal_uses : Modal → Scope → List Use
modal_uses modal scope = each (λ (formula : Formula). formula_uses formula scope) modal

abbrev pub constraint_layer : constraint.Constraint-F (Scope → List Use) → Scope → List Use
constraint_layer (constraint.Both parts) scope = flat_map (λ part. part scope) parts
constraint_layer (constraint.Each variables body) scope = Variables variables ∷ body (scope_of variables ++ scope)
constraint_layer (constraint.Single operator) scope = modal_uses operator scope
constraint_layer (constraint.Soft at name body) scope = body scope

unfoldable pub constraint_uses : Constraint → Scope → List Use
constraint_uses tree = fold_constraint constraint_layer tree

abbrev pub num_layer : num.Num-F (List Use) → List Use
num_layer (num.Number numeral) = []
num_layer (num.TotalCost at) = FunctionUse (record { name = total_cost; at = at }) [] [] ∷ []
num_layer (num.Violated name) = NameUse name ∷ []
num_layer (num.Neg at part) = part
num_layer (num.Sub at first second) = first ++ second
num_layer (num.Sum at parts) = flat_map (λ part. part) parts
num_layer (num.Product at parts) = flat_map (λ part. part) parts

unfoldable pub num_uses : Num → List Use
num_uses tree = fold_num num_layer tree

abbrev pub metric_uses : Option Metric → List Use
metric_uses None = []
metric_uses (Some metric) = num_uses metric.body

abbrev pub init_uses : Init → List Use
init_uses (init.True pred args) = AtomUse pred args [] ∷ []
init_uses (init.False pred args) = AtomUse pred args [] ∷ []
init_uses (init.Value function args number) = FunctionUse function args [] ∷ []

abbrev pub action_uses : Action → List Use
action_uses action = Variables action.params ∷ goal_uses action.pre.body (scope_of action.params) ++ effect_uses action.effect.body (scope_of action.params)

abbrev pub header_uses : Header → List Use
header_uses header = Variables header.params ∷ []

unfoldable pub domain_uses : Domain → List Use
domain_uses D = Objects D.constants ∷ flat_map header_uses D.predicates ++ flat_map header_uses D.functions ++ constraint_uses D.constraints.body [] ++ flat_map action_uses D.actions

unfoldable pub problem_uses : Problem → List Use
problem_uses P = Objects P.objects ∷ flat_map init_uses P.init ++ goal_uses P.goal.body [] ++ constraint_uses P.constraints.body [] ++ metric_uses P.metric
