-- What a walk over trees has come to: the variables in scope, and the first offences that were found.
use Rattle.std.specs.Prelude.{ℕ, ◌-◌, List, [], ◌∷◌, ◌++◌, drop, take, length, flat_map, fold, Option}
use Rattle.p3_task.specs.Names.{Name}
use Rattle.p3_task.specs.Slots.{words_of}
use Rattle.p3_task.specs.Uses.{Scope, Use, scope_of, goal_uses, effect_uses, init_uses, num_uses, metric_uses, Variables}
use Rattle.p3_task.specs.declared.metric.Metric.{Metric}
use Rattle.p3_task.specs.declared.metric.Num.{Num}
use Rattle.p3_task.specs.declared.task.Action.{Action}
use Rattle.p3_task.specs.declared.task.Init.{Init}
use Rattle.p3_task.specs.declared.task.Task.{Task}
use Rattle.p3_task.specs.declared.term.Typed.{Typed}
use Rattle.p3_resolve.specs.Spots.{use_step}
use Rattle.p3_resolve.specs.declared.spot.FirstOffences.{FirstOffences}

pub record Walked : Type 0 where
  -- the variables by their slots
  pub words : List Name
  -- the same variables as uses see them
  pub scope : Scope
  pub found : FirstOffences

-- outside all variables
abbrev pub outside : FirstOffences → Walked
outside found = record { words = []; scope = []; found = found }

abbrev pub with_found : FirstOffences → Walked → Walked
with_found found walk = record { words = walk.words; scope = walk.scope; found = found }

-- a tree more, behind which the variables are as before
unfoldable pub with_tree : Task → (Scope → List Use) → Walked → Walked
with_tree T uses walk = record { words = walk.words; scope = walk.scope; found = fold (use_step T) walk.found (uses walk.scope) }

-- variables more, which are in scope
unfoldable pub with_variables : Task → List Typed → Walked → Walked
with_variables T variables walk = record {
  words = walk.words ++ words_of variables;
  scope = scope_of variables ++ walk.scope;
  found = use_step T walk.found (Variables variables);
}

-- behind the tree in which so many variables are bound
unfoldable pub behind : ℕ → Walked → Walked
behind count walk = record { words = take (length walk.words - count) walk.words; scope = drop count walk.scope; found = walk.found }

-- ---- trees whose uses are said of a scope

-- what each part uses
unfoldable pub uses_of_each : {A : Type 0} → (A → Scope → List Use) → List A → Scope → List Use
uses_of_each uses parts scope = flat_map (λ part. uses part scope) parts

-- an action's uses among variables
unfoldable pub uses_of_action : Action → Scope → List Use
uses_of_action action scope = Variables action.params ∷ goal_uses action.pre.body (scope_of action.params ++ scope) ++ effect_uses action.effect.body (scope_of action.params ++ scope)

-- no variable has to do with the initial state and with the metric
unfoldable pub uses_of_entry : Init → Scope → List Use
uses_of_entry entry scope = init_uses entry

unfoldable pub uses_of_num : Num → Scope → List Use
uses_of_num num scope = num_uses num

unfoldable pub uses_of_metric : Option Metric → Scope → List Use
uses_of_metric metric scope = metric_uses metric
