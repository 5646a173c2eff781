-- Preconditions and goals with numbers: their hard parts and their preferences.
use Rattle.std.specs.Prelude.{◌≡◌, ℕ, Bool, true, ◌&&◌, List, [], ◌∷◌, ◌++◌, map, flat_map, Option, Some, None, option_map}
use Rattle.std.specs.List.{list_all}
use Rattle.p3_task.specs.Folds as named
use Rattle.p3_task.specs.Formulas.{holds}
use Rattle.p3_task.specs.Goals.{StatePref, hard_holds, prefs}
use Rattle.p3_task.specs.Names.{Name, has_name}
use Rattle.p3_task.specs.States.{State}
use Rattle.p3_task.specs.declared.goal.PreGoal.{PreGoal}
use Rattle.p3_task.specs.declared.goal.PreGoal.TheOpen as pregoal
use Rattle.p3_task.specs.declared.term.Ref.{Ref}
use Rattle.p3_task.specs.declared.task.Task.{Task}
use Rattle.p3_numbers.specs.Conditions.{met, condition_of, is_known_formula}
use Rattle.p3_numbers.specs.Folds.{fold_goal}
use Rattle.p3_numbers.specs.Places.{Variables, number_in, ranges_of, words_of, are_known_types, Fills, environment_of}
use Rattle.p3_numbers.specs.Slots.{Slots, name_at, bound}
use Rattle.p3_numbers.specs.declared.condition.NumberedCondition.{NumberedCondition}
use Rattle.p3_numbers.specs.declared.goal.NumberedGoal.{NumberedGoal, NumberedGoal-F}
use Rattle.p3_numbers.specs.declared.goal.NumberedGoal.TheVariants as goal
use Rattle.p3_numbers.specs.declared.goal.NumberedGoal.TheOpen as layer
use Rattle.p3_numbers.specs.declared.numbers.Numbers.{Numbers}

-- ---- what it means

-- what must hold: all but the preferences
abbrev pub hard_layer : Numbers → State → NumberedGoal-F (Slots → Bool) → Slots → Bool
hard_layer N s (layer.Plain condition) slots = met N s slots condition
hard_layer N s (layer.Both parts) slots = list_all (λ part. part slots) parts
hard_layer N s (layer.Each ranges body) slots = list_all body (bound N slots ranges)
hard_layer N s (layer.Soft preference) slots = true

unfoldable pub hard_met : Numbers → State → Slots → NumberedGoal → Bool
hard_met N s slots tree = fold_goal (hard_layer N s) tree slots

-- a preference at objects in the slots of the variables outside it
pub record PlacedPreference : Type 0 where
  pub at : ℕ
  pub name : Option ℕ
  pub body : NumberedCondition
  pub slots : Slots

-- one for each preference and each choice of objects outside it
abbrev pub preferences_layer : Numbers → NumberedGoal-F (Slots → List PlacedPreference) → Slots → List PlacedPreference
preferences_layer N (layer.Plain condition) slots = []
preferences_layer N (layer.Both parts) slots = flat_map (λ part. part slots) parts
preferences_layer N (layer.Each ranges body) slots = flat_map body (bound N slots ranges)
preferences_layer N (layer.Soft preference) slots = record { at = preference.at; name = preference.name; body = preference.body; slots = slots } ∷ []

unfoldable pub preferences : Numbers → Slots → NumberedGoal → List PlacedPreference
preferences N slots tree = fold_goal (preferences_layer N) tree slots

-- ---- what a precondition or goal becomes under variables

abbrev pub numbered_name : Numbers → Option Ref → Option ℕ
numbered_name N name = option_map (λ ref. number_in N.preferences ref.name) name

abbrev pub goal_layer : Numbers → pregoal.PreGoal-F (Variables → NumberedGoal) → Variables → NumberedGoal
goal_layer N (pregoal.Plain formula) scope = goal.Plain (condition_of N formula scope)
goal_layer N (pregoal.Both parts) scope = goal.Both (map (λ part. part scope) parts)
goal_layer N (pregoal.Each variables body) scope = goal.Each (ranges_of N variables) (body (scope ++ words_of variables))
goal_layer N (pregoal.Soft pref) scope = goal.Soft (record { at = pref.at; name = numbered_name N pref.name; body = condition_of N pref.body scope })

unfoldable pub goal_of : Numbers → PreGoal → Variables → NumberedGoal
goal_of N tree = named.fold_goal (goal_layer N) tree

-- ---- whether all in it is known

abbrev pub is_known_name : Numbers → Option Ref → Bool
is_known_name N None = true
is_known_name N (Some name) = has_name N.preferences name.name

abbrev pub known_goal_layer : Numbers → pregoal.PreGoal-F (Variables → Bool) → Variables → Bool
known_goal_layer N (pregoal.Plain formula) scope = is_known_formula N formula scope
known_goal_layer N (pregoal.Both parts) scope = list_all (λ part. part scope) parts
known_goal_layer N (pregoal.Each variables body) scope = are_known_types N variables && body (scope ++ words_of variables)
known_goal_layer N (pregoal.Soft pref) scope = is_known_name N pref.name && is_known_formula N pref.body scope

unfoldable pub is_known_goal : Numbers → PreGoal → Variables → Bool
is_known_goal N tree = named.fold_goal (known_goal_layer N) tree

-- ---- the laws

-- what is seen of a preference: its place, the number of its name and the name, and where it holds
pub record PreferenceMeaning : Type 0 where
  pub at : ℕ
  pub number : Option ℕ
  pub name : Option Name
  pub holds : State → Bool

abbrev pub placed_preference_meaning : Numbers → PlacedPreference → PreferenceMeaning
placed_preference_meaning N placed = record { at = placed.at; number = placed.name; name = option_map (name_at N.preferences) placed.name; holds = λ s. met N s placed.slots placed.body }

abbrev pub preference_meaning : Task → Numbers → StatePref → PreferenceMeaning
preference_meaning T N pref = record { at = pref.at; number = option_map (number_in N.preferences) pref.name; name = pref.name; holds = λ s. holds T s pref.env pref.body }

-- the hard part is met where it holds
abbrev pub HardPartIsKept : Task → Numbers → Type 0
HardPartIsKept T N = (s : State) (tree : PreGoal) (scope : Variables) (slots : Slots) → Fills N scope slots → is_known_goal N tree scope ≡ true
    → hard_met N s slots (goal_of N tree scope) ≡ hard_holds T s (environment_of N scope slots) tree

-- the preferences are the same, in the same order
abbrev pub PreferencesAreKept : Task → Numbers → Type 0
PreferencesAreKept T N = (tree : PreGoal) (scope : Variables) (slots : Slots) → Fills N scope slots → is_known_goal N tree scope ≡ true
    → map (placed_preference_meaning N) (preferences N slots (goal_of N tree scope)) ≡ map (preference_meaning T N) (prefs T (environment_of N scope slots) tree)
