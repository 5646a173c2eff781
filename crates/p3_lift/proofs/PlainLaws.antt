-- Where constraints and preferences stand in trees, form by form.
use denote.Hole.Carrier.{hidden}
use Rattle.std.proofs.Common.{◌≡◌, ◌∙◌, refl, true, false, List}
use Rattle.std.specs.Prelude.{ℕ, Option}
use Rattle.std.specs.List.{list_any}
use Rattle.p3_task.specs.Lifting.{constrains, constrains_layer, prefers, prefers_layer}
use Rattle.p3_task.specs.declared.constraint.Constraint.{Constraint}
use Rattle.p3_task.specs.declared.constraint.Constraint.TheBlock.{hidden-the_row-Constraint-1}
use Rattle.p3_task.specs.declared.constraint.Constraint.TheVariants as constraint
use Rattle.p3_task.specs.Modal.{Modal}
use Rattle.p3_task.specs.declared.formula.Formula.{Formula}
use Rattle.p3_task.specs.declared.goal.Pref.{Pref}
use Rattle.p3_task.specs.declared.goal.PreGoal.{PreGoal}
use Rattle.p3_task.specs.declared.goal.PreGoal.TheBlock.{hidden-the_row-PreGoal-1}
use Rattle.p3_task.specs.declared.goal.PreGoal.TheVariants as goal
use Rattle.p3_task.specs.declared.term.Ref.{Ref}
use Rattle.p3_task.specs.declared.term.Typed.{Typed}
use Rattle.p3_task.proofs.FoldLemmas.{fold_constraint-Both, fold_goal-Both}
use Rattle.p3_task.proofs.MeaningLemmas.{list_any-map}

-- ---- constraints

pub constrains-Both : (parts : List Constraint) → constrains (constraint.Both parts) ≡ list_any constrains parts
unfolding constrains
constrains-Both parts = fold_constraint-Both constrains_layer parts ∙ list_any-map (λ part. part) constrains parts

pub constrains-Each : (variables : List Typed) (body : Constraint) → constrains (constraint.Each variables body) ≡ constrains body
unfolding constrains hidden-the_row-Constraint-1 hidden
constrains-Each variables body = refl

pub constrains-Single : (operator : Modal) → constrains (constraint.Single operator) ≡ true
unfolding constrains
constrains-Single operator = refl

pub constrains-Soft : (at : ℕ) (name : Option Ref) (body : Constraint) → constrains (constraint.Soft at name body) ≡ true
unfolding constrains hidden-the_row-Constraint-1 hidden
constrains-Soft at name body = refl

pub ruleset constraint_forms = (constrains-Both, constrains-Each, constrains-Single, constrains-Soft)

-- ---- preconditions and goals

pub prefers-Plain : (body : Formula) → prefers (goal.Plain body) ≡ false
unfolding prefers
prefers-Plain body = refl

pub prefers-Both : (parts : List PreGoal) → prefers (goal.Both parts) ≡ list_any prefers parts
unfolding prefers
prefers-Both parts = fold_goal-Both prefers_layer parts ∙ list_any-map (λ part. part) prefers parts

pub prefers-Each : (variables : List Typed) (body : PreGoal) → prefers (goal.Each variables body) ≡ prefers body
unfolding prefers hidden-the_row-PreGoal-1 hidden
prefers-Each variables body = refl

pub prefers-Soft : (pref : Pref) → prefers (goal.Soft pref) ≡ true
unfolding prefers
prefers-Soft pref = refl

pub ruleset goal_forms = (prefers-Plain, prefers-Both, prefers-Each, prefers-Soft)
