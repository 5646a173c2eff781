-- The task of a target without conditions has no conditional effect.
use Rattle.std.proofs.Common.{◌≡◌, ◌∙◌, ℕ, Bool, true, false, ◌&&◌, List, [], ◌∷◌, ◌++◌, map, refl, ap}
use Rattle.std.specs.Prelude.{◌==◌, slice_index_or, if◌then◌else◌}
use Rattle.std.specs.List.{All, list_all}
use Rattle.std.proofs.lemmas.List.Elements.{All-head, All-tail}
use Rattle.std.proofs.lemmas.List.Folds.{list_all-map}
use Rattle.p3_base.specs.Words.{Name}
use Rattle.p3_task.specs.Unconditional.{is_effect_unconditional, is_unconditional, unconditional_layer}
use Rattle.p3_task.specs.declared.effect.Effect.{Effect}
use Rattle.p3_task.specs.declared.effect.Effect.TheVariants as effect
use Rattle.p3_task.specs.declared.effect.Amount.TheVariants as amount
use Rattle.p3_task.specs.declared.task.Action.{Action}
use Rattle.p3_task.proofs.Computes.{trees_compute}
use Rattle.p3_task.proofs.FoldLemmas.{fold_effect-All}
use Rattle.p3_formula.specs.Unconditional.{HasNoConditions}
use Rattle.p3_formula.specs.declared.form.Change.{Change}
use Rattle.p3_formula.specs.declared.form.Form.TheVariants.{True}
use Rattle.p3_formula.specs.declared.target.Target.{Target}
use Rattle.p3_formula.specs.declared.target.TargetAction.{TargetAction}
use Rattle.p3_writer.specs.TaskOf.{action_of, change_of, increase_of, literal, task_of, under}

all_unconditional : (parts : List Effect) → is_effect_unconditional (effect.All parts) ≡ list_all is_effect_unconditional parts
unfolding is_effect_unconditional
all_unconditional parts = fold_effect-All unconditional_layer parts ∙ list_all-map (λ found. found) _ parts

module _ (names : List Name) where
  literal_unconditional : (add : Bool) (name : Name) → is_effect_unconditional (literal add name) ≡ true
  unfolding trees_compute is_effect_unconditional
  literal_unconditional true name = refl
  literal_unconditional false name = refl

  change_unconditional : (change : Change) → change.cond ≡ True → is_effect_unconditional (change_of names change) ≡ true
  change_unconditional change is =
      ap (λ condition. is_effect_unconditional (under names condition (literal change.add (slice_index_or names change.atom [])))) is
      ∙ literal_unconditional change.add (slice_index_or names change.atom [])

  increase_unconditional : (cost : ℕ) → list_all is_effect_unconditional (increase_of cost) ≡ true
  unfolding trees_compute is_effect_unconditional
  increase_unconditional cost = by (cost == 0)
    where
      by : (none : Bool) → list_all is_effect_unconditional (if none then [] else effect.Cost 0 (amount.Number (record { at = 0; len = 0; digits = cost; places = 0 })) ∷ []) ≡ true
      by true = refl
      by false = refl

  changes_unconditional : (changes : List Change) (cost : ℕ) → All (λ (change : Change). change.cond ≡ True) changes → list_all is_effect_unconditional (map (change_of names) changes ++ increase_of cost) ≡ true
  changes_unconditional [] cost always = increase_unconditional cost
  changes_unconditional (change ∷ changes) cost always =
      λ i. change_unconditional change (All-head (λ (one : Change). one.cond ≡ True) change changes always) i
      && changes_unconditional changes cost (All-tail (λ (one : Change). one.cond ≡ True) change changes always) i

  actions_unconditional : (actions : List TargetAction) → All HasNoConditions actions → list_all (λ (action : Action). is_effect_unconditional action.effect.body) (map (action_of names) actions) ≡ true
  actions_unconditional [] free = refl
  actions_unconditional (action ∷ actions) free =
      λ i. (all_unconditional (map (change_of names) action.effects ++ increase_of action.cost) ∙ changes_unconditional action.effects action.cost (All-head HasNoConditions action actions free)) i
      && actions_unconditional actions (All-tail HasNoConditions action actions free) i

pub task_unconditional : (X : Target) → All HasNoConditions X.actions → is_unconditional (task_of X) ≡ true
unfolding is_unconditional task_of
task_unconditional X free = actions_unconditional X.predicates X.actions free
