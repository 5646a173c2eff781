-- What an effect does that is built of given parts.
use Rattle.std.proofs.Common.{◌≡◌, ◌∙◌, ℕ, List, [], ◌∷◌, map, refl, ap}
use Rattle.std.specs.Prelude.{flat_map, if◌then◌else◌}
use Rattle.std.proofs.lemmas.List.Folds.{flat_map-map}
use mathlib.Core.Former.{Count}
use denote.Hole.Carrier.{hidden}
use Rattle.p3_task.specs.States.{State}
use Rattle.p3_task.specs.declared.state.Fact.{Fact}
use Rattle.p3_numbers.specs.Conditions.{met}
use Rattle.p3_numbers.specs.Slots.{Slots, bound}
use Rattle.p3_numbers.specs.Folds.{fold_effect, fold_effects}
use Rattle.p3_numbers.specs.Effects.{changes_layer, under, literals_layer, numbered_literals, increases_layer, numbered_increases}
use Rattle.p3_numbers.specs.declared.numbers.Numbers.{Numbers}
use Rattle.p3_numbers.specs.declared.condition.NumberedCondition.{NumberedCondition}
use Rattle.p3_numbers.specs.declared.effect.NumberedEffect.{NumberedEffect, NumberedEffect-F, Row_of-NumberedEffect, end_of-NumberedEffect, more_of-NumberedEffect, items-the_row-NumberedEffect, items_hidden-the_row-NumberedEffect-0}
use Rattle.p3_numbers.specs.declared.effect.NumberedEffect.TheBlock.{hidden-the_row-NumberedEffect-0, hidden-the_row-NumberedEffect-1}
use Rattle.p3_numbers.specs.declared.effect.NumberedEffect.TheVariants.{All, Each, If}

module _ {A : Type 0} (layer : NumberedEffect-F A → A) where
  row_effects : {n : Count} (row : Row_of-NumberedEffect n) → fold_effects layer row ≡ map (fold_effect layer) (items-the_row-NumberedEffect n row)
  row_effects end_of-NumberedEffect = refl
  row_effects (more_of-NumberedEffect part rest) = λ i. fold_effect layer part ∷ row_effects rest i

  hidden_effects : (parts : List NumberedEffect) → fold_effects layer (hidden-the_row-NumberedEffect-0 parts) ≡ map (fold_effect layer) parts
  hidden_effects parts = row_effects (hidden-the_row-NumberedEffect-0 parts) ∙ ap (map (fold_effect layer)) (items_hidden-the_row-NumberedEffect-0 parts)

-- the atoms that are added, or those that are deleted
module _ (first second : Fact → List Fact) (N : Numbers) (s : State) (slots : Slots) where
  abbrev pub changes : Slots → NumberedEffect → List Fact
  changes slots tree = fold_effect (changes_layer first second N s) tree slots

  pub changes-All : (parts : List NumberedEffect) → changes slots (All parts) ≡ flat_map (changes slots) parts
  changes-All parts = ap (flat_map (λ part. part slots)) (hidden_effects (changes_layer first second N s) parts) ∙ flat_map-map (λ part. part slots) _ parts

  pub changes-Each : (ranges : List ℕ) (body : NumberedEffect) → changes slots (Each ranges body) ≡ flat_map (λ inner. changes inner body) (bound N slots ranges)
  unfolding hidden-the_row-NumberedEffect-1 hidden
  changes-Each ranges body = refl

  pub changes-If : (condition : NumberedCondition) (body : NumberedEffect) → changes slots (If condition body) ≡ (if met N s slots condition then changes slots body else [])
  unfolding hidden-the_row-NumberedEffect-1 hidden
  changes-If condition body = refl

module _ (N : Numbers) (slots : Slots) where
  pub numbered_literals-All : (parts : List NumberedEffect) → numbered_literals N slots (All parts) ≡ flat_map (numbered_literals N slots) parts
  unfolding numbered_literals
  numbered_literals-All parts = ap (flat_map (λ part. part slots)) (hidden_effects (literals_layer N) parts) ∙ flat_map-map (λ part. part slots) _ parts

  pub numbered_literals-Each : (ranges : List ℕ) (body : NumberedEffect) → numbered_literals N slots (Each ranges body) ≡ flat_map (λ inner. numbered_literals N inner body) (bound N slots ranges)
  unfolding numbered_literals hidden-the_row-NumberedEffect-1 hidden
  numbered_literals-Each ranges body = refl

  pub numbered_literals-If : (condition : NumberedCondition) (body : NumberedEffect) → numbered_literals N slots (If condition body) ≡ map (under condition slots) (numbered_literals N slots body)
  unfolding numbered_literals hidden-the_row-NumberedEffect-1 hidden
  numbered_literals-If condition body = refl

pub numbered_increases-All : (parts : List NumberedEffect) → numbered_increases (All parts) ≡ flat_map numbered_increases parts
unfolding numbered_increases
numbered_increases-All parts = ap (flat_map (λ part. part)) (hidden_effects increases_layer parts) ∙ flat_map-map (λ part. part) _ parts
