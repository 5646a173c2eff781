-- Tasks without conditional effects.
use Rattle.std.specs.Prelude.{Bool, true, false, IsTrue}
use Rattle.std.specs.List.{list_all}
use Rattle.p3_task.specs.Folds.{fold_effect}
use Rattle.p3_task.specs.declared.effect.Effect.{Effect}
use Rattle.p3_task.specs.declared.effect.Effect.TheOpen as effect
use Rattle.p3_task.specs.declared.task.Task.{Task}

-- whether no `when` stands in the effect
abbrev pub unconditional_layer : effect.Effect-F Bool → Bool
unconditional_layer (effect.Add pred args) = true
unconditional_layer (effect.Del pred args) = true
unconditional_layer (effect.All parts) = list_all (λ part. part) parts
unconditional_layer (effect.Each variables body) = body
unconditional_layer (effect.If condition body) = false
unconditional_layer (effect.Cost at amount) = true

unfoldable pub is_effect_unconditional : Effect → Bool
is_effect_unconditional tree = fold_effect unconditional_layer tree

unfoldable pub is_unconditional : Task → Bool
is_unconditional T = list_all (λ action. is_effect_unconditional action.effect.body) T.domain.actions

abbrev pub IsUnconditional : Task → Type 0
IsUnconditional T = IsTrue (is_unconditional T)
