-- The weights by number are those of the names of an action's preferences, and the sums of these.
use Rattle.std.proofs.Common.{◌≡◌, ◌∙◌, ℕ, ◌+◌, ◌*◌, refl, sym, ap, Bool, true, ◌&&◌, List, [], ◌∷◌, ◌++◌, map, sum_by, arith, Option, Some, None, pos, ◌+ℤ◌, ◌*ℤ◌}
use Rattle.std.specs.Prelude.{flat_map, fold, int_lt, option_map, slice_get, if◌then◌else◌}
use Rattle.std.specs.List.{list_all}
use Rattle.std.proofs.lemmas.Bool.{and_parts}
use Rattle.std.proofs.lemmas.Int.{ints}
use Rattle.std.proofs.lemmas.List.Folds.{list_all-append}
use Rattle.std.proofs.lemmas.Option.{slice_get-get_or}
use mathlib.Core.Former.{Count}
use Rattle.p3_formula.specs.declared.target.Weights.{Weights}
use Rattle.p3_numbers.proofs.PlaceLemmas.{found_name, found_within}
use Rattle.p3_numbers.specs.Conditions.{is_known_formula}
use Rattle.p3_numbers.specs.Goals.{is_known_goal, is_known_name, known_goal_layer}
use Rattle.p3_numbers.specs.Places.{Variables, are_known_types, number_in, words_of}
use Rattle.p3_numbers.specs.declared.numbers.Numbers.{Numbers}
use Rattle.p3_task.specs.Bindings.{bind}
use Rattle.p3_task.specs.Costs.{increases}
use Rattle.p3_task.specs.Folds.{fold_goals}
use Rattle.p3_task.specs.Goals.{StatePref, named, pref_names, prefs, prefs_layer}
use Rattle.p3_task.specs.Limits.{action_prefs, cost_bound, greatest_amount, weight_of, width}
use Rattle.p3_task.specs.Names.{Name, has_name}
use Rattle.p3_task.specs.PreferenceNames.{ordered_names}
use Rattle.p3_task.specs.States.{Environment}
use Rattle.p3_task.specs.declared.goal.PreGoal.{PreGoal, Row_of-PreGoal, end_of-PreGoal, more_of-PreGoal}
use Rattle.p3_task.specs.declared.goal.PreGoal.TheVariants as goal
use Rattle.p3_task.specs.declared.task.Action.{Action}
use Rattle.p3_task.specs.declared.task.Task.{Task}
use Rattle.p3_task.specs.declared.term.Ref.{Ref}
use Rattle.p3_limits.specs.Bounds.{share_of}
use Rattle.p3_limits.specs.Weights.{HasWeights}
use Rattle.p3_limits.specs.declared.measure.Measure.{Measure}
use Rattle.p3_limits.specs.declared.measure.Measure.TheVariants.{Cost, Width}

-- what a preference of the name counts for
abbrev pub counted_for : Measure → Weights → Numbers → Option Name → ℕ
counted_for measure w N name = share_of measure w.by_name (option_map (number_in N.preferences) name)

module _ (T : Task) (N : Numbers) where
  -- ---- the names of the preferences of a goal that is known

  abbrev is_known : Option Name → Bool
  is_known None = true
  is_known (Some name) = has_name N.preferences name

  abbrev are_known : List StatePref → Bool
  are_known list = list_all (λ (pref : StatePref). is_known pref.name) list

  each_known : {A : Type 0} (found : A → List StatePref) → ((item : A) → are_known (found item) ≡ true) → (items : List A) → are_known (flat_map found items) ≡ true
  each_known found known [] = refl
  each_known found known (item ∷ items) = list_all-append (λ (pref : StatePref). is_known pref.name) (found item) (flat_map found items) ∙ (λ i. known item i && each_known found known items i)

  name_known : (name : Option Ref) → is_known_name N name ≡ true → (is_known (named name) && true) ≡ true
  name_known None known = refl
  name_known (Some name) known = ap (λ t. t && true) known

  mutual
    unfolding prefs is_known_goal

    prefs_known : (tree : PreGoal) (scope : Variables) (env : Environment) → is_known_goal N tree scope ≡ true → are_known (prefs T env tree) ≡ true
    prefs_known (goal.Plain formula) scope env known = refl
    prefs_known (goal.Both' _ parts) scope env known = all_prefs_known parts scope env known
    prefs_known (goal.Each' variables _ (more_of-PreGoal body _)) scope env known =
        let inner = scope ++ words_of variables in
        let parts = and_parts (are_known_types N variables) (is_known_goal N body inner) known in
        each_known (λ more. prefs T more body) (λ more. prefs_known body inner more parts.1) (bind T env variables)
    prefs_known (goal.Soft pref) scope env known = name_known pref.name (and_parts (is_known_name N pref.name) (is_known_formula N pref.body scope) known).0

    all_prefs_known : {n : Count} (parts : Row_of-PreGoal n) (scope : Variables) (env : Environment) → list_all (λ part. part scope) (fold_goals (known_goal_layer N) parts) ≡ true
        → are_known (flat_map (λ part. part env) (fold_goals (prefs_layer T) parts)) ≡ true
    all_prefs_known end_of-PreGoal scope env known = refl
    all_prefs_known (more_of-PreGoal part rest) scope env known =
        let parts = and_parts (is_known_goal N part scope) (list_all (λ part. part scope) (fold_goals (known_goal_layer N) rest)) known in
        list_all-append (λ (pref : StatePref). is_known pref.name) (prefs T env part) (flat_map (λ part. part env) (fold_goals (prefs_layer T) rest))
        ∙ (λ i. prefs_known part scope env parts.0 i && all_prefs_known rest scope env parts.1 i)

  -- ---- their weights

  module _ (w : Weights) (has : HasWeights T w) (names : N.preferences ≡ ordered_names T) where
    weight_is : (name : Option Name) → is_known name ≡ true → weight_of T name ≡ pos (counted_for Cost w N name)
    weight_is None known = refl
    weight_is (Some name) known = sym (has.by_name (number_in N.preferences name) name (ap (λ all. slice_get all (number_in N.preferences name)) (sym names) ∙ slice_get-get_or N.preferences (number_in N.preferences name) [] (found_within N.preferences name known) ∙ ap Some (found_name N.preferences name known)))

    weights_sum : (start : ℕ) (list : List StatePref) → are_known list ≡ true
        → fold ◌+ℤ◌ (pos start) (map (λ (pref : StatePref). weight_of T pref.name) list) ≡ pos (fold (λ sum name. sum + counted_for Cost w N name) start (pref_names list))
    weights_sum start [] known = refl
    weights_sum start (pref ∷ list) known =
        let parts = and_parts (is_known pref.name) (are_known list) known in
        ap (λ z. fold ◌+ℤ◌ z (map (λ (pref : StatePref). weight_of T pref.name) list)) (ap (λ z. pos start +ℤ z) (weight_is pref.name parts.0) ∙ adds start (counted_for Cost w N pref.name))
        ∙ weights_sum (start + counted_for Cost w N pref.name) list parts.1
      where
        adds : (a b : ℕ) → pos a +ℤ pos b ≡ pos (a + b)
        adds a b = omega (arith, ints)

    widths_sum : (start : ℕ) (list : List StatePref) → are_known list ≡ true
        → fold (λ sum (pref : StatePref). sum + (if int_lt (pos 0) (weight_of T pref.name) then 1 else 0)) start list ≡ fold (λ sum name. sum + counted_for Width w N name) start (pref_names list)
    widths_sum start [] known = refl
    widths_sum start (pref ∷ list) known =
        let parts = and_parts (is_known pref.name) (are_known list) known in
        ap (λ z. fold (λ sum (pref : StatePref). sum + (if int_lt (pos 0) (weight_of T pref.name) then 1 else 0)) (start + (if int_lt (pos 0) z then 1 else 0)) list) (weight_is pref.name parts.0)
        ∙ widths_sum (start + counted_for Width w N pref.name) list parts.1

    module _ (action : Action) (known : is_known_goal N action.pre.body (words_of action.params) ≡ true) where
      pub bound_is : cost_bound T action ≡ pos (w.total_cost * sum_by (greatest_amount T) (increases action.effect.body) + sum_by (counted_for Cost w N) (pref_names (action_prefs T action)))
      unfolding cost_bound
      bound_is = (λ i. sym has.total_cost i *ℤ pos (sum_by (greatest_amount T) (increases action.effect.body)) +ℤ weights_sum 0 (action_prefs T action) (prefs_known action.pre.body (words_of action.params) [] known) i)

      pub width_is : width T action ≡ sum_by (counted_for Width w N) (pref_names (action_prefs T action))
      unfolding width
      width_is = widths_sum 0 (action_prefs T action) (prefs_known action.pre.body (words_of action.params) [] known)
