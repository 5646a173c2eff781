-- What the preferences of a numbered goal count for together is what those of the goal do that it was made of, cut.
use denote.Hole.Carrier.{hidden}
use Rattle.std.proofs.Common.{◌≡◌, ◌∙◌, ℕ, ◌+◌, ◌*◌, true, Option, List, [], ◌∷◌, ◌++◌, map, sum, sum_by, length, refl, sym, ap, arith}
use Rattle.std.specs.Prelude.{flat_map}
use Rattle.std.specs.List.{list_all}
use Rattle.std.proofs.Math.Nat.{suc-mul}
use Rattle.std.proofs.lemmas.Bool.{and_parts}
use Rattle.std.proofs.lemmas.List.{map-append}
use Rattle.std.proofs.lemmas.List.Sums.{sum_by-append}
use mathlib.Core.Former.{Count}
use Rattle.p3_limits.proofs.CutLaws.{cut-zero, cut-total-zero, cut-each, sum-cons}
use Rattle.p3_limits.proofs.PreferenceLaws.{length-bind}
use Rattle.p3_limits.proofs.SizeLaws.{choices-are}
use Rattle.p3_limits.proofs.SizeLemmas.{cut_total-map, hidden_goals}
use Rattle.p3_limits.specs.Cuts.{cut, cut_choices, cut_sum, cut_total}
use Rattle.p3_numbers.specs.Conditions.{condition_of}
use Rattle.p3_numbers.specs.Folds.{fold_goal}
use Rattle.p3_numbers.specs.Goals.{goal_of, goal_layer, numbered_name, is_known_goal, known_goal_layer}
use Rattle.p3_numbers.specs.Places.{Variables, ranges_of, words_of, are_known_types, IsNumbering}
use Rattle.p3_numbers.specs.declared.condition.NumberedCondition.{NumberedCondition}
use Rattle.p3_numbers.specs.declared.goal.NumberedPreference.{NumberedPreference}
use Rattle.p3_numbers.specs.declared.goal.NumberedGoal.{NumberedGoal}
use Rattle.p3_numbers.specs.declared.goal.NumberedGoal.TheBlock.{hidden-the_row-NumberedGoal-1}
use Rattle.p3_numbers.specs.declared.goal.NumberedGoal.TheVariants as numbered
use Rattle.p3_numbers.specs.declared.numbers.Numbers.{Numbers}
use Rattle.p3_task.proofs.PreferenceNameLaws.{prefs-names}
use Rattle.p3_task.specs.Bindings.{bind}
use Rattle.p3_task.specs.Folds as tree
use Rattle.p3_task.specs.Goals.{StatePref, named, prefs, prefs_layer, pref_names}
use Rattle.p3_task.specs.Names.{Name}
use Rattle.p3_task.specs.States.{Environment}
use Rattle.p3_task.specs.declared.goal.PreGoal.{PreGoal, Row_of-PreGoal, end_of-PreGoal, more_of-PreGoal}
use Rattle.p3_task.specs.declared.goal.PreGoal.TheVariants as goal
use Rattle.p3_task.specs.declared.task.Task.{Task}
use Rattle.p3_task.specs.declared.term.Ref.{Ref}
use Rattle.p3_limits.specs.Bounds.{share_of, shares, shares_layer}
use Rattle.p3_limits.specs.declared.measure.Measure.{Measure}

-- ---- goals by their forms

module _ (measure : Measure) (by_name : List ℕ) (N : Numbers) where
  pub shares-Plain : (body : NumberedCondition) → shares measure by_name N (numbered.Plain body) ≡ 0
  unfolding shares
  shares-Plain body = refl

  pub shares-Both : (parts : List NumberedGoal) → shares measure by_name N (numbered.Both parts) ≡ cut_total (shares measure by_name N) 0 parts
  unfolding shares
  shares-Both parts = ap (cut_sum 0) (hidden_goals (shares_layer measure by_name N) parts) ∙ cut_total-map (fold_goal (shares_layer measure by_name N)) 0 parts

  pub shares-Each : (ranges : List ℕ) (body : NumberedGoal) → shares measure by_name N (numbered.Each ranges body) ≡ cut (cut_choices N ranges * shares measure by_name N body)
  unfolding shares hidden-the_row-NumberedGoal-1 hidden
  shares-Each ranges body = refl

  pub shares-Soft : (preference : NumberedPreference) → shares measure by_name N (numbered.Soft preference) ≡ cut (share_of measure by_name preference.name)
  unfolding shares
  shares-Soft preference = refl

pub ruleset share_forms = (shares-Plain, shares-Both, shares-Each, shares-Soft)

-- ---- sums over names

module _ (of : Option Name → ℕ) where
  abbrev total : List StatePref → ℕ
  total list = sum_by of (pref_names list)

  total-append : (first second : List StatePref) → total (first ++ second) ≡ total first + total second
  total-append first second = ap (sum_by of) (map-append (λ (pref : StatePref). pref.name) first second) ∙ sum_by-append of (pref_names first) (pref_names second)

  -- of lists that have the same sum
  alike-total : {A : Type 0} (found : A → List StatePref) (n : ℕ) → ((x : A) → total (found x) ≡ n) → (xs : List A) → total (flat_map found xs) ≡ length xs * n
  alike-total found n alike [] = omega arith
  alike-total found n alike (x ∷ xs) =
      total-append (found x) (flat_map found xs) ∙ (λ i. alike x i + alike-total found n alike xs i) ∙ omega (arith, suc-mul (length xs) n)

  joined-total : (env : Environment) (parts : List (Environment → List StatePref)) → sum (map (λ part. total (part env)) parts) ≡ total (flat_map (λ part. part env) parts)
  joined-total env [] = refl
  joined-total env (part ∷ parts) =
      sum-cons (total (part env)) (map (λ part. total (part env)) parts) ∙ ap (λ n. total (part env) + n) (joined-total env parts)
      ∙ sym (total-append (part env) (flat_map (λ part. part env) parts))

-- ---- the law

module _ (T : Task) (N : Numbers) (ties : IsNumbering T N) (measure : Measure) (by_name : List ℕ) (of : Option Name → ℕ)
    (same : (name : Option Ref) → share_of measure by_name (numbered_name N name) ≡ of (named name)) where
  bound-total : (body : PreGoal) (found : List Environment) → total of (flat_map (λ env. prefs T env body) found) ≡ length found * total of (prefs T [] body)
  bound-total body found = alike-total of (λ env. prefs T env body) (total of (prefs T [] body)) (λ env. ap (sum_by of) (prefs-names T body env [])) found

  mutual
    unfolding prefs goal_of is_known_goal

    pub goal-shares : (tree : PreGoal) (scope : Variables) → is_known_goal N tree scope ≡ true → shares measure by_name N (goal_of N tree scope) ≡ cut (sum_by of (pref_names (prefs T [] tree)))
    goal-shares (goal.Plain formula) scope known = shares-Plain measure by_name N (condition_of N formula scope) ∙ cut-zero
    goal-shares (goal.Both' _ parts) scope known =
        let made = map (λ part. part scope) (tree.fold_goals (goal_layer N) parts) in
        let found = tree.fold_goals (prefs_layer T) parts in
        shares-Both measure by_name N made ∙ sym (cut_total-map (shares measure by_name N) 0 made) ∙ ap (cut_sum 0) (goals-shares parts scope known)
        ∙ cut-total-zero (map (λ part. sum_by of (pref_names (part []))) found) ∙ ap cut (joined-total of [] found)
    goal-shares (goal.Each' variables _ (more_of-PreGoal body _)) scope known =
        let inner = scope ++ words_of variables in
        let parts = and_parts (are_known_types N variables) (is_known_goal N body inner) known in
        let each = sum_by of (pref_names (prefs T [] body)) in
        shares-Each measure by_name N (ranges_of N variables) (goal_of N body inner)
        ∙ ap (λ n. cut (cut_choices N (ranges_of N variables) * n)) (goal-shares body inner parts.1)
        ∙ cut-each N (ranges_of N variables) each
        ∙ ap (λ n. cut (n * each)) (choices-are T N ties variables parts.0 ∙ sym (length-bind T [] variables))
        ∙ ap cut (sym (bound-total body (bind T [] variables)))
    goal-shares (goal.Soft pref) scope known =
        let one : of (named pref.name) ≡ 0 + of (named pref.name) = omega arith in
        shares-Soft measure by_name N (record { at = pref.at; name = numbered_name N pref.name; body = condition_of N pref.body scope }) ∙ ap cut (same pref.name ∙ one)

    goals-shares : {n : Count} (parts : Row_of-PreGoal n) (scope : Variables) → list_all (λ part. part scope) (tree.fold_goals (known_goal_layer N) parts) ≡ true
        → map (shares measure by_name N) (map (λ part. part scope) (tree.fold_goals (goal_layer N) parts)) ≡ map cut (map (λ part. sum_by of (pref_names (part []))) (tree.fold_goals (prefs_layer T) parts))
    goals-shares end_of-PreGoal scope known = refl
    goals-shares (more_of-PreGoal part rest) scope known =
        let parts = and_parts (is_known_goal N part scope) (list_all (λ part. part scope) (tree.fold_goals (known_goal_layer N) rest)) known in
        λ i. goal-shares part scope parts.0 i ∷ goals-shares rest scope parts.1 i
