-- Where a condition holds that is built of given parts.
use Rattle.std.proofs.Common.{◌≡◌, ◌∙◌, ℕ, not, List, ◌∷◌, map, refl, ap}
use Rattle.std.specs.List.{list_any, list_all}
use Rattle.std.proofs.lemmas.List.Folds.{list_all-map}
use mathlib.Core.Former.{Count}
use denote.Hole.Carrier.{hidden}
use Rattle.p3_base.specs.Connectives.{◌implies◌}
use Rattle.p3_task.specs.States.{State}
use Rattle.p3_task.proofs.MeaningLemmas.{list_any-map}
use Rattle.p3_numbers.specs.Slots.{Slots, bound}
use Rattle.p3_numbers.specs.Folds.{fold_condition, fold_conditions}
use Rattle.p3_numbers.specs.Conditions.{met, met_layer}
use Rattle.p3_numbers.specs.declared.numbers.Numbers.{Numbers}
use Rattle.p3_numbers.specs.declared.condition.NumberedCondition.{NumberedCondition, NumberedCondition-F, Row_of-NumberedCondition, end_of-NumberedCondition, more_of-NumberedCondition, items-the_row-NumberedCondition, items_hidden-the_row-NumberedCondition-0}
use Rattle.p3_numbers.specs.declared.condition.NumberedCondition.TheBlock.{hidden-the_row-NumberedCondition-0, hidden-the_row-NumberedCondition-1}
use Rattle.p3_numbers.specs.declared.condition.NumberedCondition.TheVariants.{And, Or, Not, Imply, Exists, Forall}

module _ {A : Type 0} (layer : NumberedCondition-F A → A) where
  row_conditions : {n : Count} (row : Row_of-NumberedCondition n) → fold_conditions layer row ≡ map (fold_condition layer) (items-the_row-NumberedCondition n row)
  row_conditions end_of-NumberedCondition = refl
  row_conditions (more_of-NumberedCondition part rest) = λ i. fold_condition layer part ∷ row_conditions rest i

  hidden_conditions : (parts : List NumberedCondition) → fold_conditions layer (hidden-the_row-NumberedCondition-0 parts) ≡ map (fold_condition layer) parts
  hidden_conditions parts = row_conditions (hidden-the_row-NumberedCondition-0 parts) ∙ ap (map (fold_condition layer)) (items_hidden-the_row-NumberedCondition-0 parts)

module _ (N : Numbers) (s : State) (slots : Slots) where
  pub met-And : (parts : List NumberedCondition) → met N s slots (And parts) ≡ list_all (met N s slots) parts
  unfolding met
  met-And parts = ap (list_all (λ part. part slots)) (hidden_conditions (met_layer N s) parts) ∙ list_all-map (λ part. part slots) _ parts

  pub met-Or : (parts : List NumberedCondition) → met N s slots (Or parts) ≡ list_any (met N s slots) parts
  unfolding met
  met-Or parts = ap (list_any (λ part. part slots)) (hidden_conditions (met_layer N s) parts) ∙ list_any-map (λ part. part slots) _ parts

  pub met-Not : (part : NumberedCondition) → met N s slots (Not part) ≡ not (met N s slots part)
  unfolding met hidden-the_row-NumberedCondition-1 hidden
  met-Not part = refl

  pub met-Imply : (first second : NumberedCondition) → met N s slots (Imply first second) ≡ (met N s slots first implies met N s slots second)
  unfolding met hidden-the_row-NumberedCondition-1 hidden
  met-Imply first second = refl

  pub met-Exists : (ranges : List ℕ) (body : NumberedCondition) → met N s slots (Exists ranges body) ≡ list_any (λ inner. met N s inner body) (bound N slots ranges)
  unfolding met hidden-the_row-NumberedCondition-1 hidden
  met-Exists ranges body = refl

  pub met-Forall : (ranges : List ℕ) (body : NumberedCondition) → met N s slots (Forall ranges body) ≡ list_all (λ inner. met N s inner body) (bound N slots ranges)
  unfolding met hidden-the_row-NumberedCondition-1 hidden
  met-Forall ranges body = refl
