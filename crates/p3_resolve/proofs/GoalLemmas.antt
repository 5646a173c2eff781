-- The numbered goal that a precondition or a goal becomes, form by form.
use Rattle.std.proofs.Common.{◌≡◌, ◌∙◌, List, ◌++◌, map, refl, ap}
use Rattle.std.proofs.lemmas.Simd.{map-map}
use Rattle.p3_task.proofs.Computes.{trees_compute}
use Rattle.p3_task.proofs.FoldLemmas.{fold_goal-Both}
use Rattle.p3_task.specs.declared.formula.Formula.{Formula}
use Rattle.p3_task.specs.declared.goal.Pref.{Pref}
use Rattle.p3_task.specs.declared.goal.PreGoal.{PreGoal}
use Rattle.p3_task.specs.declared.goal.PreGoal.TheVariants as pregoal
use Rattle.p3_task.specs.declared.term.Typed.{Typed}
use Rattle.p3_numbers.specs.Conditions.{condition_of}
use Rattle.p3_numbers.specs.Goals.{numbered_name, goal_of, goal_layer}
use Rattle.p3_numbers.specs.Places.{Variables, ranges_of, words_of}
use Rattle.p3_numbers.specs.declared.goal.NumberedGoal.TheVariants as goal
use Rattle.p3_numbers.specs.declared.numbers.Numbers.{Numbers}

module _ (N : Numbers) (scope : Variables) where
  pub goal_of-Plain : (formula : Formula) → goal_of N (pregoal.Plain formula) scope ≡ goal.Plain (condition_of N formula scope)
  unfolding goal_of
  goal_of-Plain formula = refl

  pub goal_of-Both : (parts : List PreGoal) → goal_of N (pregoal.Both parts) scope ≡ goal.Both (map (λ part. goal_of N part scope) parts)
  unfolding goal_of
  goal_of-Both parts = ap (λ made. made scope) (fold_goal-Both (goal_layer N) parts) ∙ ap goal.Both (map-map _ _ parts)

  pub goal_of-Each : (variables : List Typed) (body : PreGoal) → goal_of N (pregoal.Each variables body) scope ≡ goal.Each (ranges_of N variables) (goal_of N body (scope ++ words_of variables))
  unfolding goal_of trees_compute
  goal_of-Each variables body = refl

  pub goal_of-Soft : (pref : Pref) → goal_of N (pregoal.Soft pref) scope ≡ goal.Soft (record { at = pref.at; name = numbered_name N pref.name; body = condition_of N pref.body scope })
  unfolding goal_of
  goal_of-Soft pref = refl

pub ruleset goal_laws = (goal_of-Plain, goal_of-Both, goal_of-Each, goal_of-Soft)
