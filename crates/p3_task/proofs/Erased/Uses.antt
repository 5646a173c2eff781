-- What an erased task uses is what the task uses, erased.
use Rattle.std.proofs.Common.{◌≡◌, ◌∙◌, refl, sym, ap, List, [], ◌∷◌, ◌++◌, map, Option, None, Some}
use Rattle.std.specs.Prelude.{flat_map, option_map}
use Rattle.std.proofs.lemmas.List.{map-append}
use Rattle.p3_task.specs.Names.{total_cost}
use Rattle.p3_task.specs.Uses.{Scope, scope_of, Use, Objects, Variables, FunctionUse, formula_uses, formula_layer, amount_uses, effect_uses, effect_layer, goal_uses, goal_layer, modal_uses, constraint_uses, constraint_layer, num_uses, num_layer, metric_uses, init_uses, action_uses, header_uses, domain_uses, problem_uses}
use Rattle.p3_task.specs.Erased.{erased_typed, erased_all_typed, erased_amount, erased_formula, erased_effect, erased_goal, erased_modal, erased_constraint, erased_num, erased_metric, erased_header, erased_action, erased_init, erased_domain, erased_problem, erased_use}
use Rattle.p3_task.proofs.Erased.Along.{map_along, flat_map_into}
use Rattle.p3_task.proofs.Erased.Folds.{erased_formula_layer, fold_formula-erased, erased_effect_layer, fold_effect-erased, erased_goal_layer, fold_goal-erased, erased_constraint_layer, fold_constraint-erased, erased_num_layer, fold_num-erased}
use Rattle.p3_task.proofs.Erased.Words.{type_names-erased}
use Rattle.p3_task.specs.declared.term.Typed.{Typed}
use Rattle.p3_task.specs.declared.formula.Formula.{Formula, Formula-F}
use Rattle.p3_task.specs.declared.formula.Formula.TheOpen as formula
use Rattle.p3_task.specs.declared.effect.Amount.{Amount}
use Rattle.p3_task.specs.declared.effect.Amount.TheVariants as amount
use Rattle.p3_task.specs.declared.effect.Effect.{Effect, Effect-F}
use Rattle.p3_task.specs.declared.effect.Effect.TheOpen as effect
use Rattle.p3_task.specs.declared.goal.PreGoal.{PreGoal, PreGoal-F}
use Rattle.p3_task.specs.declared.goal.PreGoal.TheOpen as goal
use Rattle.p3_task.specs.Modal.{Modal}
use Rattle.p3_base.proofs.OperatorLaws.{joined_image, joined_over}
use Rattle.p3_task.specs.declared.constraint.Constraint.{Constraint, Constraint-F}
use Rattle.p3_task.specs.declared.constraint.Constraint.TheOpen as constraint
use Rattle.p3_task.specs.declared.metric.Metric.{Metric}
use Rattle.p3_task.specs.declared.metric.Num.{Num, Num-F}
use Rattle.p3_task.specs.declared.metric.Num.TheOpen as num
use Rattle.p3_task.specs.declared.task.Action.{Action}
use Rattle.p3_task.specs.declared.task.Header.{Header}
use Rattle.p3_task.specs.declared.task.Init.{Init}
use Rattle.p3_task.specs.declared.task.Init.TheVariants as init
use Rattle.p3_task.specs.declared.task.Domain.{Domain}
use Rattle.p3_task.specs.declared.task.Problem.{Problem}

abbrev UsesAt : Type 0
UsesAt = Scope → List Use

abbrev erased_found : UsesAt → UsesAt
erased_found found scope = map erased_use (found scope)

scope_of-erased : (variables : List Typed) → scope_of (erased_all_typed variables) ≡ scope_of variables
scope_of-erased variables = map_along erased_typed _ _ (λ variable i. (variable.name.name, type_names-erased variable.types i)) variables

-- the parts, the body under variables, and two parts one after the other
parts_found : (parts : List UsesAt) (scope : Scope) → flat_map (λ (part : UsesAt). part scope) (map erased_found parts) ≡ map erased_use (flat_map (λ (part : UsesAt). part scope) parts)
parts_found parts scope = flat_map_into erased_found erased_use (λ (part : UsesAt). part scope) (λ (part : UsesAt). part scope) (λ part. refl) parts

under_variables : (variables : List Typed) (body : UsesAt) (scope : Scope) → Variables (erased_all_typed variables) ∷ erased_found body (scope_of (erased_all_typed variables) ++ scope) ≡ map erased_use (Variables variables ∷ body (scope_of variables ++ scope))
under_variables variables body scope = λ i. Variables (erased_all_typed variables) ∷ erased_found body (scope_of-erased variables i ++ scope)

both_found : (first second others more : List Use) → first ≡ map erased_use others → second ≡ map erased_use more → first ++ second ≡ map erased_use (others ++ more)
both_found first second others more e f = (λ i. e i ++ f i) ∙ sym (map-append erased_use others more)

formula_layer-erased : (x : Formula-F UsesAt) → formula_layer (erased_formula_layer erased_found x) ≡ erased_found (formula_layer x)
formula_layer-erased (formula.Atom pred args) = refl
formula_layer-erased (formula.Equal left right) = refl
formula_layer-erased (formula.And parts) = λ i scope. parts_found parts scope i
formula_layer-erased (formula.Or parts) = λ i scope. parts_found parts scope i
formula_layer-erased (formula.Not part) = refl
formula_layer-erased (formula.Imply first second) = λ i scope. sym (map-append erased_use (first scope) (second scope)) i
formula_layer-erased (formula.Exists variables body) = λ i scope. under_variables variables body scope i
formula_layer-erased (formula.Forall variables body) = λ i scope. under_variables variables body scope i

formula_uses-erased : (f : Formula) → formula_uses (erased_formula f) ≡ erased_found (formula_uses f)
unfolding formula_uses
formula_uses-erased f = fold_formula-erased formula_layer formula_layer erased_found formula_layer-erased f

amount_uses-erased : (a : Amount) (scope : Scope) → amount_uses (erased_amount a) scope ≡ map erased_use (amount_uses a scope)
amount_uses-erased (amount.Number numeral) scope = refl
amount_uses-erased (amount.Value function args) scope = refl

effect_layer-erased : (x : Effect-F UsesAt) → effect_layer (erased_effect_layer erased_found x) ≡ erased_found (effect_layer x)
effect_layer-erased (effect.Add pred args) = refl
effect_layer-erased (effect.Del pred args) = refl
effect_layer-erased (effect.All parts) = λ i scope. parts_found parts scope i
effect_layer-erased (effect.Each variables body) = λ i scope. under_variables variables body scope i
effect_layer-erased (effect.If condition body) = λ i scope. both_found (formula_uses (erased_formula condition) scope) (erased_found body scope) (formula_uses condition scope) (body scope) (λ j. formula_uses-erased condition j scope) refl i
effect_layer-erased (effect.Cost at increase) = λ i scope. FunctionUse (record { name = total_cost; at = 0 }) [] scope ∷ amount_uses-erased increase scope i

effect_uses-erased : (e : Effect) → effect_uses (erased_effect e) ≡ erased_found (effect_uses e)
unfolding effect_uses
effect_uses-erased e = fold_effect-erased effect_layer effect_layer erased_found effect_layer-erased e

goal_layer-erased : (x : PreGoal-F UsesAt) → goal_layer (erased_goal_layer erased_found x) ≡ erased_found (goal_layer x)
goal_layer-erased (goal.Plain body) = formula_uses-erased body
goal_layer-erased (goal.Both parts) = λ i scope. parts_found parts scope i
goal_layer-erased (goal.Each variables body) = λ i scope. under_variables variables body scope i
goal_layer-erased (goal.Soft pref) = formula_uses-erased pref.body

goal_uses-erased : (g : PreGoal) → goal_uses (erased_goal g) ≡ erased_found (goal_uses g)
unfolding goal_uses
goal_uses-erased g = fold_goal-erased goal_layer goal_layer erased_found goal_layer-erased g

modal_uses-erased : (m : Modal) (scope : Scope) → modal_uses (erased_modal m) scope ≡ map erased_use (modal_uses m scope)
modal_uses-erased m scope = joined_over erased_formula ◌++◌ (λ formula. formula_uses formula scope) m ∙ joined_image (map erased_use) ◌++◌ ◌++◌ (λ first second. sym (map-append erased_use first second)) _ (λ formula. formula_uses formula scope) (λ formula i. formula_uses-erased formula i scope) m

constraint_layer-erased : (x : Constraint-F UsesAt) → constraint_layer (erased_constraint_layer erased_found x) ≡ erased_found (constraint_layer x)
constraint_layer-erased (constraint.Both parts) = λ i scope. parts_found parts scope i
constraint_layer-erased (constraint.Each variables body) = λ i scope. under_variables variables body scope i
constraint_layer-erased (constraint.Single operator) = λ i scope. modal_uses-erased operator scope i
constraint_layer-erased (constraint.Soft at name body) = refl

constraint_uses-erased : (c : Constraint) → constraint_uses (erased_constraint c) ≡ erased_found (constraint_uses c)
unfolding constraint_uses
constraint_uses-erased c = fold_constraint-erased constraint_layer constraint_layer erased_found constraint_layer-erased c

num_layer-erased : (x : Num-F (List Use)) → num_layer (erased_num_layer (map erased_use) x) ≡ map erased_use (num_layer x)
num_layer-erased (num.Number numeral) = refl
num_layer-erased (num.TotalCost at) = refl
num_layer-erased (num.Violated name) = refl
num_layer-erased (num.Neg at part) = refl
num_layer-erased (num.Sub at first second) = sym (map-append erased_use first second)
num_layer-erased (num.Sum at parts) = flat_map_into (map erased_use) erased_use (λ part. part) (λ part. part) (λ part. refl) parts
num_layer-erased (num.Product at parts) = flat_map_into (map erased_use) erased_use (λ part. part) (λ part. part) (λ part. refl) parts

num_uses-erased : (n : Num) → num_uses (erased_num n) ≡ map erased_use (num_uses n)
unfolding num_uses
num_uses-erased n = fold_num-erased num_layer num_layer (map erased_use) num_layer-erased n

metric_uses-erased : (metric : Option Metric) → metric_uses (option_map erased_metric metric) ≡ map erased_use (metric_uses metric)
metric_uses-erased None = refl
metric_uses-erased (Some metric) = num_uses-erased metric.body

init_uses-erased : (entry : Init) → init_uses (erased_init entry) ≡ map erased_use (init_uses entry)
init_uses-erased (init.True pred args) = refl
init_uses-erased (init.False pred args) = refl
init_uses-erased (init.Value function args number) = refl

action_uses-erased : (action : Action) → action_uses (erased_action action) ≡ map erased_use (action_uses action)
action_uses-erased action =
    let scope : Scope = scope_of action.params in
    let pre : goal_uses (erased_goal action.pre.body) (scope_of (erased_all_typed action.params)) ≡ map erased_use (goal_uses action.pre.body scope) = λ i. goal_uses-erased action.pre.body i (scope_of-erased action.params i) in
    let change : effect_uses (erased_effect action.effect.body) (scope_of (erased_all_typed action.params)) ≡ map erased_use (effect_uses action.effect.body scope) = λ i. effect_uses-erased action.effect.body i (scope_of-erased action.params i) in
    both_found _ _ (Variables action.params ∷ goal_uses action.pre.body scope) (effect_uses action.effect.body scope) (λ i. Variables (erased_all_typed action.params) ∷ pre i) change

header_uses-erased : (header : Header) → header_uses (erased_header header) ≡ map erased_use (header_uses header)
header_uses-erased header = refl

pub domain_uses-erased : (D : Domain) → domain_uses (erased_domain D) ≡ map erased_use (domain_uses D)
unfolding domain_uses
domain_uses-erased D =
    let predicates : flat_map header_uses (map erased_header D.predicates) ≡ map erased_use (flat_map header_uses D.predicates) = flat_map_into erased_header erased_use header_uses header_uses header_uses-erased D.predicates in
    let functions : flat_map header_uses (map erased_header D.functions) ≡ map erased_use (flat_map header_uses D.functions) = flat_map_into erased_header erased_use header_uses header_uses header_uses-erased D.functions in
    let actions : flat_map action_uses (map erased_action D.actions) ≡ map erased_use (flat_map action_uses D.actions) = flat_map_into erased_action erased_use action_uses action_uses action_uses-erased D.actions in
    both_found _ _ (Objects D.constants ∷ flat_map header_uses D.predicates ++ flat_map header_uses D.functions ++ constraint_uses D.constraints.body []) (flat_map action_uses D.actions)
    (both_found _ _ (Objects D.constants ∷ flat_map header_uses D.predicates ++ flat_map header_uses D.functions) (constraint_uses D.constraints.body [])
    (both_found _ _ (Objects D.constants ∷ flat_map header_uses D.predicates) (flat_map header_uses D.functions) (ap (λ rest. Objects (erased_all_typed D.constants) ∷ rest) predicates) functions)
    (λ i. constraint_uses-erased D.constraints.body i [])) actions

pub problem_uses-erased : (P : Problem) → problem_uses (erased_problem P) ≡ map erased_use (problem_uses P)
unfolding problem_uses
problem_uses-erased P =
    let entries : flat_map init_uses (map erased_init P.init) ≡ map erased_use (flat_map init_uses P.init) = flat_map_into erased_init erased_use init_uses init_uses init_uses-erased P.init in
    both_found _ _ (Objects P.objects ∷ flat_map init_uses P.init ++ goal_uses P.goal.body [] ++ constraint_uses P.constraints.body []) (metric_uses P.metric)
    (both_found _ _ (Objects P.objects ∷ flat_map init_uses P.init ++ goal_uses P.goal.body []) (constraint_uses P.constraints.body [])
    (both_found _ _ (Objects P.objects ∷ flat_map init_uses P.init) (goal_uses P.goal.body []) (ap (λ rest. Objects (erased_all_typed P.objects) ∷ rest) entries) (λ i. goal_uses-erased P.goal.body i []))
    (λ i. constraint_uses-erased P.constraints.body i [])) (metric_uses-erased P.metric)
