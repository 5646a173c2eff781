-- What trees use that are built from a list of parts, and of which kinds they are. At all other forms of trees the definitions compute.
use Rattle.std.proofs.Common.{◌≡◌, ◌∙◌, ap, List}
use Rattle.std.specs.Prelude.{flat_map}
use Rattle.std.specs.List.{list_any, list_all}
use Rattle.std.proofs.lemmas.List.Folds.{list_all-map, flat_map-map}
use Rattle.p3_task.specs.Uses as uses
use Rattle.p3_task.specs.Uses.{Scope, scope_of, Use, Variables, AtomUse, FunctionUse, SideUse, NameUse, formula_uses, amount_uses, effect_uses, goal_uses, modal_uses, constraint_uses, num_uses}
use Rattle.p3_task.specs.Lifting as lifting
use Rattle.p3_task.specs.Lifting.{constrains, constrains_layer, prefers, prefers_layer, is_formula_variable_free, is_effect_variable_free, is_goal_variable_free, is_modal_variable_free, is_constraint_variable_free}
use Rattle.p3_task.proofs.FoldLemmas.{fold_formula-And, fold_formula-Or, fold_effect-All, fold_goal-Both, fold_constraint-Both}
use Rattle.p3_task.proofs.MeaningLemmas.{list_any-map}
use Rattle.p3_task.specs.declared.formula.Formula.{Formula}
use Rattle.p3_task.specs.declared.formula.Formula.TheVariants as formula
use Rattle.p3_task.specs.declared.effect.Effect.{Effect}
use Rattle.p3_task.specs.declared.effect.Effect.TheVariants as effect
use Rattle.p3_task.specs.declared.goal.PreGoal.{PreGoal}
use Rattle.p3_task.specs.declared.goal.PreGoal.TheVariants as goal
use Rattle.p3_task.specs.declared.constraint.Constraint.{Constraint}
use Rattle.p3_task.specs.declared.constraint.Constraint.TheVariants as constraint

-- ---- what trees use

pub formula_uses-And : (parts : List Formula) (scope : Scope) → formula_uses (formula.And parts) scope ≡ flat_map (λ part. formula_uses part scope) parts
unfolding formula_uses
formula_uses-And parts scope = ap (λ found. found scope) (fold_formula-And uses.formula_layer parts) ∙ flat_map-map (λ part. part scope) _ parts

pub formula_uses-Or : (parts : List Formula) (scope : Scope) → formula_uses (formula.Or parts) scope ≡ flat_map (λ part. formula_uses part scope) parts
unfolding formula_uses
formula_uses-Or parts scope = ap (λ found. found scope) (fold_formula-Or uses.formula_layer parts) ∙ flat_map-map (λ part. part scope) _ parts

pub effect_uses-All : (parts : List Effect) (scope : Scope) → effect_uses (effect.All parts) scope ≡ flat_map (λ part. effect_uses part scope) parts
unfolding effect_uses
effect_uses-All parts scope = ap (λ found. found scope) (fold_effect-All uses.effect_layer parts) ∙ flat_map-map (λ part. part scope) _ parts

pub goal_uses-Both : (parts : List PreGoal) (scope : Scope) → goal_uses (goal.Both parts) scope ≡ flat_map (λ part. goal_uses part scope) parts
unfolding goal_uses
goal_uses-Both parts scope = ap (λ found. found scope) (fold_goal-Both uses.goal_layer parts) ∙ flat_map-map (λ part. part scope) _ parts

pub constraint_uses-Both : (parts : List Constraint) (scope : Scope) → constraint_uses (constraint.Both parts) scope ≡ flat_map (λ part. constraint_uses part scope) parts
unfolding constraint_uses
constraint_uses-Both parts scope = ap (λ found. found scope) (fold_constraint-Both uses.constraint_layer parts) ∙ flat_map-map (λ part. part scope) _ parts

-- ---- plain and variable-free trees

pub constrains-Both : (parts : List Constraint) → constrains (constraint.Both parts) ≡ list_any constrains parts
unfolding constrains
constrains-Both parts = fold_constraint-Both constrains_layer parts ∙ list_any-map (λ found. found) _ parts

pub prefers-Both : (parts : List PreGoal) → prefers (goal.Both parts) ≡ list_any prefers parts
unfolding prefers
prefers-Both parts = fold_goal-Both prefers_layer parts ∙ list_any-map (λ found. found) _ parts

pub is_formula_variable_free-And : (parts : List Formula) → is_formula_variable_free (formula.And parts) ≡ list_all is_formula_variable_free parts
unfolding is_formula_variable_free
is_formula_variable_free-And parts = fold_formula-And lifting.formula_layer parts ∙ list_all-map (λ found. found) _ parts

pub is_formula_variable_free-Or : (parts : List Formula) → is_formula_variable_free (formula.Or parts) ≡ list_all is_formula_variable_free parts
unfolding is_formula_variable_free
is_formula_variable_free-Or parts = fold_formula-Or lifting.formula_layer parts ∙ list_all-map (λ found. found) _ parts

pub is_effect_variable_free-All : (parts : List Effect) → is_effect_variable_free (effect.All parts) ≡ list_all is_effect_variable_free parts
unfolding is_effect_variable_free
is_effect_variable_free-All parts = fold_effect-All lifting.effect_layer parts ∙ list_all-map (λ found. found) _ parts

pub is_goal_variable_free-Both : (parts : List PreGoal) → is_goal_variable_free (goal.Both parts) ≡ list_all is_goal_variable_free parts
unfolding is_goal_variable_free
is_goal_variable_free-Both parts = fold_goal-Both lifting.goal_layer parts ∙ list_all-map (λ found. found) _ parts

pub is_constraint_variable_free-Both : (parts : List Constraint) → is_constraint_variable_free (constraint.Both parts) ≡ list_all is_constraint_variable_free parts
unfolding is_constraint_variable_free
is_constraint_variable_free-Both parts = fold_constraint-Both lifting.constraint_layer parts ∙ list_all-map (λ found. found) _ parts
