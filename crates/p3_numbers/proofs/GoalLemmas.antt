-- What a goal means that is built of given parts.
use Rattle.std.proofs.Common.{◌≡◌, ◌∙◌, ℕ, List, ◌∷◌, map, refl, ap}
use Rattle.std.specs.Prelude.{flat_map}
use Rattle.std.specs.List.{list_all}
use Rattle.std.proofs.lemmas.List.Folds.{list_all-map, flat_map-map}
use mathlib.Core.Former.{Count}
use denote.Hole.Carrier.{hidden}
use Rattle.p3_task.specs.States.{State}
use Rattle.p3_numbers.specs.Slots.{Slots, bound}
use Rattle.p3_numbers.specs.Folds.{fold_goal, fold_goals}
use Rattle.p3_numbers.specs.Goals.{hard_met, hard_layer, preferences, preferences_layer}
use Rattle.p3_numbers.specs.declared.numbers.Numbers.{Numbers}
use Rattle.p3_numbers.specs.declared.goal.NumberedGoal.{NumberedGoal, NumberedGoal-F, Row_of-NumberedGoal, end_of-NumberedGoal, more_of-NumberedGoal, items-the_row-NumberedGoal, items_hidden-the_row-NumberedGoal-0}
use Rattle.p3_numbers.specs.declared.goal.NumberedGoal.TheBlock.{hidden-the_row-NumberedGoal-0, hidden-the_row-NumberedGoal-1}
use Rattle.p3_numbers.specs.declared.goal.NumberedGoal.TheVariants.{Both, Each}

module _ {A : Type 0} (layer : NumberedGoal-F A → A) where
  row_goals : {n : Count} (row : Row_of-NumberedGoal n) → fold_goals layer row ≡ map (fold_goal layer) (items-the_row-NumberedGoal n row)
  row_goals end_of-NumberedGoal = refl
  row_goals (more_of-NumberedGoal part rest) = λ i. fold_goal layer part ∷ row_goals rest i

  hidden_goals : (parts : List NumberedGoal) → fold_goals layer (hidden-the_row-NumberedGoal-0 parts) ≡ map (fold_goal layer) parts
  hidden_goals parts = row_goals (hidden-the_row-NumberedGoal-0 parts) ∙ ap (map (fold_goal layer)) (items_hidden-the_row-NumberedGoal-0 parts)

module _ (N : Numbers) (slots : Slots) where
  pub hard_met-Both : (s : State) (parts : List NumberedGoal) → hard_met N s slots (Both parts) ≡ list_all (hard_met N s slots) parts
  unfolding hard_met
  hard_met-Both s parts = ap (list_all (λ part. part slots)) (hidden_goals (hard_layer N s) parts) ∙ list_all-map (λ part. part slots) _ parts

  pub hard_met-Each : (s : State) (ranges : List ℕ) (body : NumberedGoal) → hard_met N s slots (Each ranges body) ≡ list_all (λ inner. hard_met N s inner body) (bound N slots ranges)
  unfolding hard_met hidden-the_row-NumberedGoal-1 hidden
  hard_met-Each s ranges body = refl

  pub preferences-Both : (parts : List NumberedGoal) → preferences N slots (Both parts) ≡ flat_map (preferences N slots) parts
  unfolding preferences
  preferences-Both parts = ap (flat_map (λ part. part slots)) (hidden_goals (preferences_layer N) parts) ∙ flat_map-map (λ part. part slots) _ parts

  pub preferences-Each : (ranges : List ℕ) (body : NumberedGoal) → preferences N slots (Each ranges body) ≡ flat_map (λ inner. preferences N inner body) (bound N slots ranges)
  unfolding preferences hidden-the_row-NumberedGoal-1 hidden
  preferences-Each ranges body = refl
