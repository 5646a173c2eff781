-- The operators and preferences of a constraint that is built of given parts.
use Rattle.std.proofs.Common.{◌≡◌, ◌∙◌, ℕ, Option, List, [], ◌∷◌, ◌++◌, map, refl, ap}
use Rattle.std.specs.Prelude.{flat_map}
use Rattle.std.proofs.lemmas.List.Folds.{flat_map-map}
use mathlib.Core.Former.{Count}
use denote.Hole.Carrier.{hidden}
use Rattle.p3_numbers.specs.Slots.{Slots, bound}
use Rattle.p3_numbers.specs.Folds.{fold_constraint, fold_constraints}
use Rattle.p3_numbers.specs.Constraints.{hard_layer, hard_operators, operators_layer, all_operators, soft_instances, soft_instances_of_all, soft_instances_of_one}
use Rattle.p3_numbers.specs.declared.numbers.Numbers.{Numbers}
use Rattle.p3_numbers.specs.declared.constraint.NumberedConstraint.{NumberedConstraint, NumberedConstraint-F, Row_of-NumberedConstraint, end_of-NumberedConstraint, more_of-NumberedConstraint, items-the_row-NumberedConstraint, items_hidden-the_row-NumberedConstraint-0}
use Rattle.p3_numbers.specs.declared.constraint.NumberedConstraint.TheBlock.{hidden-the_row-NumberedConstraint-0, hidden-the_row-NumberedConstraint-1}
use Rattle.p3_numbers.specs.declared.constraint.NumberedConstraint.TheVariants.{Both, Each, Soft}

module _ {A : Type 0} (layer : NumberedConstraint-F A → A) where
  row_constraints : {n : Count} (row : Row_of-NumberedConstraint n) → fold_constraints layer row ≡ map (fold_constraint layer) (items-the_row-NumberedConstraint n row)
  row_constraints end_of-NumberedConstraint = refl
  row_constraints (more_of-NumberedConstraint part rest) = λ i. fold_constraint layer part ∷ row_constraints rest i

  hidden_constraints : (parts : List NumberedConstraint) → fold_constraints layer (hidden-the_row-NumberedConstraint-0 parts) ≡ map (fold_constraint layer) parts
  hidden_constraints parts = row_constraints (hidden-the_row-NumberedConstraint-0 parts) ∙ ap (map (fold_constraint layer)) (items_hidden-the_row-NumberedConstraint-0 parts)

module _ (N : Numbers) (slots : Slots) where
  pub hard_operators-Both : (parts : List NumberedConstraint) → hard_operators N slots (Both parts) ≡ flat_map (hard_operators N slots) parts
  unfolding hard_operators
  hard_operators-Both parts = ap (flat_map (λ part. part slots)) (hidden_constraints (hard_layer N) parts) ∙ flat_map-map (λ part. part slots) _ parts

  pub hard_operators-Each : (ranges : List ℕ) (body : NumberedConstraint) → hard_operators N slots (Each ranges body) ≡ flat_map (λ inner. hard_operators N inner body) (bound N slots ranges)
  unfolding hard_operators hidden-the_row-NumberedConstraint-1 hidden
  hard_operators-Each ranges body = refl

  pub all_operators-Both : (parts : List NumberedConstraint) → all_operators N slots (Both parts) ≡ flat_map (all_operators N slots) parts
  unfolding all_operators
  all_operators-Both parts = ap (flat_map (λ part. part slots)) (hidden_constraints (operators_layer N) parts) ∙ flat_map-map (λ part. part slots) _ parts

  pub all_operators-Each : (ranges : List ℕ) (body : NumberedConstraint) → all_operators N slots (Each ranges body) ≡ flat_map (λ inner. all_operators N inner body) (bound N slots ranges)
  unfolding all_operators hidden-the_row-NumberedConstraint-1 hidden
  all_operators-Each ranges body = refl

  pub all_operators-Soft : (at : ℕ) (name : Option ℕ) (body : NumberedConstraint) → all_operators N slots (Soft at name body) ≡ all_operators N slots body
  unfolding all_operators hidden-the_row-NumberedConstraint-1 hidden
  all_operators-Soft at name body = refl

  row_instances : {n : Count} (row : Row_of-NumberedConstraint n) → soft_instances_of_all N row slots ≡ flat_map (λ part. soft_instances N part slots) (items-the_row-NumberedConstraint n row)
  unfolding soft_instances_of_all
  row_instances end_of-NumberedConstraint = refl
  row_instances (more_of-NumberedConstraint part rest) = ap (λ found. soft_instances N part slots ++ found) (row_instances rest)

  pub soft_instances-Both : (parts : List NumberedConstraint) → soft_instances N (Both parts) slots ≡ flat_map (λ part. soft_instances N part slots) parts
  unfolding soft_instances
  soft_instances-Both parts = row_instances (hidden-the_row-NumberedConstraint-0 parts) ∙ ap (flat_map (λ part. soft_instances N part slots)) (items_hidden-the_row-NumberedConstraint-0 parts)

  pub soft_instances-Each : (ranges : List ℕ) (body : NumberedConstraint) → soft_instances N (Each ranges body) slots ≡ flat_map (λ inner. soft_instances N body inner) (bound N slots ranges)
  unfolding soft_instances soft_instances_of_one hidden-the_row-NumberedConstraint-1 hidden
  soft_instances-Each ranges body = refl

  pub soft_instances-Soft : (at : ℕ) (name : Option ℕ) (body : NumberedConstraint) → soft_instances N (Soft at name body) slots ≡ record { at = at; name = name; body = body; slots = slots } ∷ []
  unfolding soft_instances hidden-the_row-NumberedConstraint-1 hidden
  soft_instances-Soft at name body = refl
