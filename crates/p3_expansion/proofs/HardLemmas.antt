-- What the hard part of a goal means that is built of given parts.
use Rattle.std.proofs.Common.{◌≡◌, ◌∙◌, ℕ, true, List, ◌∷◌, map, refl, ap}
use Rattle.std.specs.Prelude.{flat_map}
use Rattle.std.proofs.lemmas.List.Folds.{flat_map-map}
use mathlib.Core.Former.{Count}
use denote.Hole.Carrier.{hidden}
use Rattle.p3_task.specs.States.{State}
use Rattle.p3_numbers.specs.Folds.{fold_goal, fold_goals}
use Rattle.p3_numbers.specs.Goals.{hard_met}
use Rattle.p3_numbers.specs.Slots.{Slots, bound}
use Rattle.p3_numbers.specs.declared.condition.NumberedCondition.{NumberedCondition}
use Rattle.p3_numbers.specs.declared.goal.NumberedGoal.{NumberedGoal, NumberedGoal-F, Row_of-NumberedGoal, end_of-NumberedGoal, more_of-NumberedGoal, items-the_row-NumberedGoal, items_hidden-the_row-NumberedGoal-0}
use Rattle.p3_numbers.specs.declared.goal.NumberedGoal.TheBlock.{hidden-the_row-NumberedGoal-0, hidden-the_row-NumberedGoal-1}
use Rattle.p3_numbers.specs.declared.goal.NumberedGoal.TheVariants.{Plain, Both, Each, Soft}
use Rattle.p3_numbers.specs.declared.goal.NumberedPreference.{NumberedPreference}
use Rattle.p3_numbers.specs.declared.numbers.Numbers.{Numbers}
use Rattle.p3_numbers.proofs.GoalLemmas.{hard_met-Both, hard_met-Each}
use Rattle.p3_expansion.specs.Hard.{hard_atoms_layer, hard_atoms, hard_meaning, hard_parts, hard_bodies}
use Rattle.p3_expansion.specs.Meanings.{joined, condition_meaning}
use Rattle.p3_expansion.proofs.MeaningLemmas.{joined-parts}

module _ {A : Type 0} (layer : NumberedGoal-F A → A) where
  row_goals : {n : Count} (row : Row_of-NumberedGoal n) → fold_goals layer row ≡ map (fold_goal layer) (items-the_row-NumberedGoal n row)
  row_goals end_of-NumberedGoal = refl
  row_goals (more_of-NumberedGoal part rest) = λ i. fold_goal layer part ∷ row_goals rest i

  pub hidden_goals : (parts : List NumberedGoal) → fold_goals layer (hidden-the_row-NumberedGoal-0 parts) ≡ map (fold_goal layer) parts
  hidden_goals parts = row_goals (hidden-the_row-NumberedGoal-0 parts) ∙ ap (map (fold_goal layer)) (items_hidden-the_row-NumberedGoal-0 parts)

module _ (N : Numbers) (slots : Slots) where
  pub hard-Plain : (condition : NumberedCondition) → hard_meaning N slots (Plain condition) ≡ condition_meaning N slots condition
  unfolding hard_met hard_atoms
  hard-Plain condition = refl

  pub hard-Soft : (preference : NumberedPreference) (s : State) → true ≡ (hard_meaning N slots (Soft preference)).test s
  unfolding hard_met
  hard-Soft preference s = refl

  pub atoms-Both : (parts : List NumberedGoal) → hard_atoms N slots (Both parts) ≡ flat_map (hard_atoms N slots) parts
  unfolding hard_atoms
  atoms-Both parts = ap (flat_map (λ part. part slots)) (hidden_goals (hard_atoms_layer N) parts) ∙ flat_map-map (λ part. part slots) (fold_goal (hard_atoms_layer N)) parts

  pub atoms-Each : (ranges : List ℕ) (body : NumberedGoal) → hard_atoms N slots (Each ranges body) ≡ flat_map (λ inner. hard_atoms N inner body) (bound N slots ranges)
  unfolding hard_atoms hidden-the_row-NumberedGoal-1 hidden
  atoms-Each ranges body = refl

  pub hard-Both : (parts : List NumberedGoal) → hard_meaning N slots (Both parts) ≡ joined true (hard_parts N slots parts)
  hard-Both parts = joined-parts (hard_meaning N slots) true parts (λ s. hard_met N s slots (Both parts)) (hard_atoms N slots (Both parts)) (λ s. hard_met-Both N slots s parts) (atoms-Both parts)

  pub hard-Each : (ranges : List ℕ) (body : NumberedGoal) → hard_meaning N slots (Each ranges body) ≡ joined true (hard_bodies N slots ranges body)
  hard-Each ranges body =
      joined-parts (λ inner. hard_meaning N inner body) true (bound N slots ranges) (λ s. hard_met N s slots (Each ranges body)) (hard_atoms N slots (Each ranges body))
      (λ s. hard_met-Each N slots s ranges body) (atoms-Each ranges body)
