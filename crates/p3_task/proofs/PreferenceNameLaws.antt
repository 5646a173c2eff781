-- The names of a precondition's preferences do not depend on the arguments.
use Rattle.std.proofs.Common.{◌≡◌, ◌∙◌, refl, sym, List, [], ◌∷◌, ◌++◌, map}
use Rattle.std.specs.Prelude.{flat_map}
use Rattle.std.proofs.lemmas.List.{map-append}
use mathlib.Core.Former.{Count, one_more}
use Rattle.p3_task.specs.Folds.{fold_goals, fold_one_goal}
use Rattle.p3_task.specs.Names.{Name}
use Rattle.p3_task.specs.States.{Environment}
use Rattle.p3_task.specs.Bindings.{bind, tuples, extended}
use Rattle.p3_task.specs.Goals.{StatePref, pref_names, prefs, prefs_layer}
use Rattle.p3_task.specs.declared.goal.PreGoal.{PreGoal, Row_of-PreGoal, end_of-PreGoal, more_of-PreGoal}
use Rattle.p3_task.specs.declared.goal.PreGoal.TheVariants as goal
use Rattle.p3_task.specs.declared.task.Task.{Task}

module _ (T : Task) where
  over_tuples : (found : Environment → List StatePref) → ((env other : Environment) → pref_names (found env) ≡ pref_names (found other)) → (first second : List Name → Environment) (all : List (List Name))
      → pref_names (flat_map found (map first all)) ≡ pref_names (flat_map found (map second all))
  over_tuples found same first second [] = refl
  over_tuples found same first second (tuple ∷ all) =
      map-append (λ (pref : StatePref). pref.name) (found (first tuple)) (flat_map found (map first all))
      ∙ (λ i. same (first tuple) (second tuple) i ++ over_tuples found same first second all i)
      ∙ sym (map-append (λ (pref : StatePref). pref.name) (found (second tuple)) (flat_map found (map second all)))

  mutual
    unfolding prefs bind

    pub prefs-names : (tree : PreGoal) (env other : Environment) → pref_names (prefs T env tree) ≡ pref_names (prefs T other tree)
    prefs-names (goal.Plain body) env other = refl
    prefs-names (goal.Both' _ parts) env other = all-names parts env other
    prefs-names (goal.Each' variables _ body) env other = over_tuples (fold_one_goal (prefs_layer T) body) (one-names body) (extended env variables) (extended other variables) (tuples T variables)
    prefs-names (goal.Soft pref) env other = refl

    all-names : {n : Count} (row : Row_of-PreGoal n) (env other : Environment) → pref_names (flat_map (λ part. part env) (fold_goals (prefs_layer T) row)) ≡ pref_names (flat_map (λ part. part other) (fold_goals (prefs_layer T) row))
    all-names end_of-PreGoal env other = refl
    all-names (more_of-PreGoal part rest) env other =
        map-append (λ (pref : StatePref). pref.name) (prefs T env part) (flat_map (λ part. part env) (fold_goals (prefs_layer T) rest))
        ∙ (λ i. prefs-names part env other i ++ all-names rest env other i)
        ∙ sym (map-append (λ (pref : StatePref). pref.name) (prefs T other part) (flat_map (λ part. part other) (fold_goals (prefs_layer T) rest)))

    one-names : {n : Count} (row : Row_of-PreGoal (one_more n)) (env other : Environment) → pref_names (fold_one_goal (prefs_layer T) row env) ≡ pref_names (fold_one_goal (prefs_layer T) row other)
    one-names (more_of-PreGoal part rest) env other = prefs-names part env other
