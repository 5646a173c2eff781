-- A goal means what the precondition or goal means that it was made of.
use Rattle.std.proofs.Common.{◌≡◌, ◌∙◌, true, List, [], ◌∷◌, ◌++◌, map, Option, Some, None, refl, sym, ap}
use Rattle.std.specs.Prelude.{flat_map, option_map}
use Rattle.std.specs.List.{list_all}
use Rattle.std.proofs.lemmas.Bool.{and_parts}
use Rattle.std.proofs.lemmas.List.Folds.{list_all-map}
use mathlib.Core.Former.{Count}
use Rattle.p3_task.specs.Folds.{fold_goals}
use Rattle.p3_task.specs.Goals as named
use Rattle.p3_task.specs.Goals.{hard_holds, prefs, prefs_layer}
use Rattle.p3_task.specs.States.{State}
use Rattle.p3_task.specs.Bindings.{bind}
use Rattle.p3_task.specs.declared.term.Ref.{Ref}
use Rattle.p3_task.specs.declared.goal.PreGoal.{PreGoal, Row_of-PreGoal, end_of-PreGoal, more_of-PreGoal}
use Rattle.p3_task.specs.declared.goal.PreGoal.TheVariants.{Plain, Both', Each', Soft}
use Rattle.p3_task.specs.declared.task.Task.{Task}
use Rattle.p3_numbers.specs.Slots.{Slots, name_at, bound}
use Rattle.p3_numbers.specs.Places.{Variables, number_in, ranges_of, words_of, are_known_types, IsNumbering, Fills, environment_of}
use Rattle.p3_numbers.specs.Conditions.{is_known_formula}
use Rattle.p3_numbers.specs.Goals.{PreferenceMeaning, hard_met, preferences, numbered_name, goal_layer, goal_of, is_known_name, known_goal_layer, is_known_goal, placed_preference_meaning, preference_meaning}
use Rattle.p3_numbers.specs.declared.numbers.Numbers.{Numbers}
use Rattle.p3_numbers.specs.declared.goal.NumberedGoal.{NumberedGoal}
use Rattle.p3_numbers.proofs.PlaceLemmas.{found_name}
use Rattle.p3_numbers.proofs.BindingLemmas.{each_binding}
use Rattle.p3_numbers.proofs.ConditionLaws.{condition-means}
use Rattle.p3_numbers.proofs.GoalLemmas.{hard_met-Both, hard_met-Each, preferences-Both, preferences-Each}
use Rattle.p3_numbers.proofs.JoinLemmas.{joined}

-- the number of a preference's name is that of its name
pub name-means : (N : Numbers) (name : Option Ref) → is_known_name N name ≡ true → option_map (name_at N.preferences) (numbered_name N name) ≡ named.named name
name-means N None known = refl
name-means N (Some name) known = ap Some (found_name N.preferences name.name known)

pub number-means : (N : Numbers) (name : Option Ref) → numbered_name N name ≡ option_map (number_in N.preferences) (named.named name)
number-means N None = refl
number-means N (Some name) = refl

module _ (T : Task) (N : Numbers) (ties : IsNumbering T N) (s : State) where
  mutual
    unfolding hard_holds goal_of is_known_goal hard_met

    pub hard-means : (tree : PreGoal) (scope : Variables) (slots : Slots) → Fills N scope slots → is_known_goal N tree scope ≡ true → hard_met N s slots (goal_of N tree scope) ≡ hard_holds T s (environment_of N scope slots) tree
    hard-means (Plain formula) scope slots fills known = condition-means T N ties s formula scope slots fills known
    hard-means (Both' _ parts) scope slots fills known =
        hard_met-Both N slots s (map (λ part. part scope) (fold_goals (goal_layer N) parts))
        ∙ sym (list_all-map (λ part. part) (hard_met N s slots) (map (λ part. part scope) (fold_goals (goal_layer N) parts)))
        ∙ ap (list_all (λ part. part)) (hards-mean parts scope slots fills known) ∙ list_all-map (λ part. part) (λ part. part (environment_of N scope slots)) (fold_goals (named.hard_layer T s) parts)
    hard-means (Each' variables _ (more_of-PreGoal body _)) scope slots fills known =
        let inner = scope ++ words_of variables in
        let parts = and_parts (are_known_types N variables) (is_known_goal N body inner) known in
        let made = goal_of N body inner in
        hard_met-Each N slots s (ranges_of N variables) made
        ∙ sym (list_all-map (λ part. part) (λ more. hard_met N s more made) (bound N slots (ranges_of N variables)))
        ∙ ap (list_all (λ part. part)) (each_binding T N ties (λ more. hard_met N s more made) (λ env. hard_holds T s env body) scope slots variables fills parts.0 (λ more fits. hard-means body inner more fits parts.1))
        ∙ list_all-map (λ part. part) (λ env. hard_holds T s env body) (bind T (environment_of N scope slots) variables)
    hard-means (Soft pref) scope slots fills known = refl

    hards-mean : {n : Count} (parts : Row_of-PreGoal n) (scope : Variables) (slots : Slots) → Fills N scope slots → list_all (λ part. part scope) (fold_goals (known_goal_layer N) parts) ≡ true
        → map (hard_met N s slots) (map (λ part. part scope) (fold_goals (goal_layer N) parts)) ≡ map (λ part. part (environment_of N scope slots)) (fold_goals (named.hard_layer T s) parts)
    hards-mean end_of-PreGoal scope slots fills known = refl
    hards-mean (more_of-PreGoal part rest) scope slots fills known =
        let parts = and_parts (is_known_goal N part scope) (list_all (λ part. part scope) (fold_goals (known_goal_layer N) rest)) known in
        λ i. hard-means part scope slots fills parts.0 i ∷ hards-mean rest scope slots fills parts.1 i

module _ (T : Task) (N : Numbers) (ties : IsNumbering T N) where
  abbrev seen : Slots → NumberedGoal → List PreferenceMeaning
  seen slots tree = map (placed_preference_meaning N) (preferences N slots tree)

  mutual
    unfolding prefs goal_of is_known_goal preferences

    pub preferences-mean : (tree : PreGoal) (scope : Variables) (slots : Slots) → Fills N scope slots → is_known_goal N tree scope ≡ true → seen slots (goal_of N tree scope) ≡ map (preference_meaning T N) (prefs T (environment_of N scope slots) tree)
    preferences-mean (Plain formula) scope slots fills known = refl
    preferences-mean (Both' _ parts) scope slots fills known =
        let made = map (λ part. part scope) (fold_goals (goal_layer N) parts) in
        ap (map (placed_preference_meaning N)) (preferences-Both N slots made)
        ∙ joined (placed_preference_meaning N) (preferences N slots) made
        ∙ ap (flat_map (λ found. found)) (all-preferences-mean parts scope slots fills known) ∙ sym (joined (preference_meaning T N) (λ part. part (environment_of N scope slots)) (fold_goals (prefs_layer T) parts))
    preferences-mean (Each' variables _ (more_of-PreGoal body _)) scope slots fills known =
        let inner = scope ++ words_of variables in
        let parts = and_parts (are_known_types N variables) (is_known_goal N body inner) known in
        let made = goal_of N body inner in
        ap (map (placed_preference_meaning N)) (preferences-Each N slots (ranges_of N variables) made)
        ∙ joined (placed_preference_meaning N) (λ more. preferences N more made) (bound N slots (ranges_of N variables))
        ∙ ap (flat_map (λ found. found)) (each_binding T N ties (λ more. seen more made) (λ env. map (preference_meaning T N) (prefs T env body)) scope slots variables fills parts.0 (λ more fits. preferences-mean body inner more fits parts.1))
        ∙ sym (joined (preference_meaning T N) (λ env. prefs T env body) (bind T (environment_of N scope slots) variables))
    preferences-mean (Soft pref) scope slots fills known =
        let parts = and_parts (is_known_name N pref.name) (is_known_formula N pref.body scope) known in
        λ i. record { at = pref.at; number = number-means N pref.name i; name = name-means N pref.name parts.0 i; holds = λ s. condition-means T N ties s pref.body scope slots fills parts.1 i } ∷ []

    all-preferences-mean : {n : Count} (parts : Row_of-PreGoal n) (scope : Variables) (slots : Slots) → Fills N scope slots → list_all (λ part. part scope) (fold_goals (known_goal_layer N) parts) ≡ true
        → map (seen slots) (map (λ part. part scope) (fold_goals (goal_layer N) parts)) ≡ map (λ part. map (preference_meaning T N) (part (environment_of N scope slots))) (fold_goals (prefs_layer T) parts)
    all-preferences-mean end_of-PreGoal scope slots fills known = refl
    all-preferences-mean (more_of-PreGoal part rest) scope slots fills known =
        let parts = and_parts (is_known_goal N part scope) (list_all (λ part. part scope) (fold_goals (known_goal_layer N) rest)) known in
        λ i. preferences-mean part scope slots fills parts.0 i ∷ all-preferences-mean rest scope slots fills parts.1 i
