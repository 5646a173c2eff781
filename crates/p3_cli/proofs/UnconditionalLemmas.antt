-- Whether a task has conditional effects does not depend on offsets.
use Rattle.std.proofs.Common.{◌≡◌, ◌∙◌, Bool, refl, sym}
use Rattle.p3_task.specs.Erased.{erased, erased_action, erased_effect}
use Rattle.p3_task.specs.Unconditional.{is_effect_unconditional, is_unconditional, unconditional_layer}
use Rattle.p3_task.specs.declared.effect.Effect.{Effect, Effect-F}
use Rattle.p3_task.specs.declared.effect.Effect.TheOpen as effect
use Rattle.p3_task.specs.declared.task.Task.{Task}
use Rattle.p3_task.proofs.Erased.Along.{all_along}
use Rattle.p3_task.proofs.Erased.Folds.{erased_effect_layer, fold_effect-erased}

abbrev itself : {A : Type 0} → A → A
itself a = a

unconditional_layer-erased : (x : Effect-F Bool) → unconditional_layer (erased_effect_layer itself x) ≡ unconditional_layer x
unconditional_layer-erased (effect.All parts) = all_along itself _ _ (λ part. refl) parts
unconditional_layer-erased _ = refl

is_effect_unconditional-erased : (e : Effect) → is_effect_unconditional (erased_effect e) ≡ is_effect_unconditional e
unfolding is_effect_unconditional
is_effect_unconditional-erased e = fold_effect-erased unconditional_layer unconditional_layer itself unconditional_layer-erased e

is_unconditional-erased : (T : Task) → is_unconditional (erased T) ≡ is_unconditional T
unfolding is_unconditional
is_unconditional-erased T = all_along erased_action _ _ (λ action. is_effect_unconditional-erased action.effect.body) T.domain.actions

-- tasks that are the same without offsets
pub same_unconditional : (T U : Task) → erased T ≡ erased U → is_unconditional T ≡ is_unconditional U
same_unconditional T U same = sym (is_unconditional-erased T) ∙ (λ i. is_unconditional (same i)) ∙ is_unconditional-erased U
