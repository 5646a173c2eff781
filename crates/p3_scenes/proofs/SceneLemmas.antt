-- The scenes of a constraint or a goal, form by form.
use Rattle.std.proofs.Common.{◌≡◌, ◌∙◌, ℕ, Bool, Option, List, [], ◌∷◌, ◌++◌, if◌then◌else◌, refl, ap}
use Rattle.std.specs.Prelude.{flat_map}
use Rattle.std.proofs.lemmas.List.Folds.{flat_map-map}
use mathlib.Core.Former.{Count}
use Rattle.p3_base.specs.declared.refusal.Role.{Role}
use Rattle.p3_task.proofs.Computes.{trees_compute}
use Rattle.p3_task.proofs.FoldLemmas.{fold_constraint-Both, fold_goal-Both}
use Rattle.p3_task.specs.Modal.{Modal}
use Rattle.p3_task.specs.Slots.{words_of}
use Rattle.p3_task.specs.declared.constraint.Constraint.{Constraint, Row_of-Constraint, end_of-Constraint, more_of-Constraint, items-the_row-Constraint, items_hidden-the_row-Constraint-0}
use Rattle.p3_task.specs.declared.constraint.Constraint.TheBlock.{hidden-the_row-Constraint-0}
use Rattle.p3_task.specs.declared.constraint.Constraint.TheVariants.{Both, Each, Single, Soft}
use Rattle.p3_task.specs.declared.formula.Formula.{Formula}
use Rattle.p3_task.specs.declared.goal.Pref.{Pref}
use Rattle.p3_task.specs.declared.goal.PreGoal.{PreGoal}
use Rattle.p3_task.specs.declared.goal.PreGoal.TheVariants as goal
use Rattle.p3_task.specs.declared.term.Ref.{Ref}
use Rattle.p3_task.specs.declared.term.Typed.{Typed}
use Rattle.p3_numbers.specs.Conditions.{condition_of}
use Rattle.p3_numbers.specs.Constraints.{modal_of}
use Rattle.p3_numbers.specs.Places.{Variables, ranges_of}
use Rattle.p3_numbers.specs.Slots.{Slots, bound}
use Rattle.p3_numbers.specs.declared.numbers.Numbers.{Numbers}
use Rattle.p3_scenes.specs.Scenes.{scene_of, scenes, scenes_layer, soft_scene_of, soft_scenes, soft_scenes_of_all, soft_scenes_of_one, state_scene_of, state_scenes, state_scenes_layer}

module _ (N : Numbers) (role : Role) (within : Bool) (scope : Variables) (slots : Slots) where
  pub scenes-Both : (parts : List Constraint) → scenes N role within (Both parts) scope slots ≡ flat_map (λ part. scenes N role within part scope slots) parts
  unfolding scenes
  scenes-Both parts = ap (λ made. made scope slots) (fold_constraint-Both (scenes_layer N role within) parts) ∙ flat_map-map (λ part. part scope slots) _ parts

  pub scenes-Each : (variables : List Typed) (body : Constraint) → scenes N role within (Each variables body) scope slots ≡ flat_map (scenes N role within body (scope ++ words_of variables)) (bound N slots (ranges_of N variables))
  unfolding scenes trees_compute
  scenes-Each variables body = refl

  pub scenes-Single : (modal : Modal) → scenes N role within (Single modal) scope slots ≡ scene_of role modal (modal_of N modal scope) scope slots ∷ []
  unfolding scenes
  scenes-Single modal = refl

  pub scenes-Soft : (at : ℕ) (name : Option Ref) (body : Constraint) → scenes N role within (Soft at name body) scope slots ≡ (if within then scenes N role within body scope slots else [])
  unfolding scenes trees_compute
  scenes-Soft at name body = refl

module _ (N : Numbers) (role : Role) (scope : Variables) (slots : Slots) where
  row_soft : {n : Count} (row : Row_of-Constraint n) → soft_scenes_of_all N role row scope slots ≡ flat_map (λ part. soft_scenes N role part scope slots) (items-the_row-Constraint n row)
  unfolding soft_scenes_of_all
  row_soft end_of-Constraint = refl
  row_soft (more_of-Constraint part rest) = ap (λ found. soft_scenes N role part scope slots ++ found) (row_soft rest)

  pub soft_scenes-Both : (parts : List Constraint) → soft_scenes N role (Both parts) scope slots ≡ flat_map (λ part. soft_scenes N role part scope slots) parts
  unfolding soft_scenes
  soft_scenes-Both parts = row_soft (hidden-the_row-Constraint-0 parts) ∙ ap (flat_map (λ part. soft_scenes N role part scope slots)) (items_hidden-the_row-Constraint-0 parts)

  pub soft_scenes-Each : (variables : List Typed) (body : Constraint) → soft_scenes N role (Each variables body) scope slots ≡ flat_map (soft_scenes N role body (scope ++ words_of variables)) (bound N slots (ranges_of N variables))
  unfolding soft_scenes soft_scenes_of_one trees_compute
  soft_scenes-Each variables body = refl

  pub soft_scenes-Single : (modal : Modal) → soft_scenes N role (Single modal) scope slots ≡ []
  unfolding soft_scenes
  soft_scenes-Single modal = refl

  pub soft_scenes-Soft : (at : ℕ) (name : Option Ref) (body : Constraint) → soft_scenes N role (Soft at name body) scope slots ≡ soft_scene_of N role at name body scope slots ∷ []
  unfolding soft_scenes trees_compute
  soft_scenes-Soft at name body = refl

module _ (N : Numbers) (scope : Variables) (slots : Slots) where
  pub state_scenes-Plain : (formula : Formula) → state_scenes N (goal.Plain formula) scope slots ≡ []
  unfolding state_scenes
  state_scenes-Plain formula = refl

  pub state_scenes-Both : (parts : List PreGoal) → state_scenes N (goal.Both parts) scope slots ≡ flat_map (λ part. state_scenes N part scope slots) parts
  unfolding state_scenes
  state_scenes-Both parts = ap (λ made. made scope slots) (fold_goal-Both (state_scenes_layer N) parts) ∙ flat_map-map (λ part. part scope slots) _ parts

  pub state_scenes-Each : (variables : List Typed) (body : PreGoal) → state_scenes N (goal.Each variables body) scope slots ≡ flat_map (state_scenes N body (scope ++ words_of variables)) (bound N slots (ranges_of N variables))
  unfolding state_scenes trees_compute
  state_scenes-Each variables body = refl

  pub state_scenes-Soft : (pref : Pref) → state_scenes N (goal.Soft pref) scope slots ≡ state_scene_of pref (condition_of N pref.body scope) scope slots ∷ []
  unfolding state_scenes
  state_scenes-Soft pref = refl
