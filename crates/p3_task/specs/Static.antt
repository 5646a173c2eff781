-- Predicates that no effect names: what is said of them stays as it is at the start.
use Rattle.std.specs.Prelude.{◌≡◌, Bool, true, not, List, [], ◌∷◌, flat_map}
use Rattle.p3_task.specs.Folds.{fold_effect}
use Rattle.p3_task.specs.Names.{Name, has_name}
use Rattle.p3_task.specs.States.{State, has_fact, start}
use Rattle.p3_task.specs.declared.state.Fact.{Fact}
use Rattle.p3_task.specs.declared.effect.Effect.{Effect}
use Rattle.p3_task.specs.declared.effect.Effect.TheOpen as layer
use Rattle.p3_task.specs.declared.task.Task.{Task}

abbrev pub changed_layer : layer.Effect-F (List Name) → List Name
changed_layer (layer.Add pred args) = pred.name ∷ []
changed_layer (layer.Del pred args) = pred.name ∷ []
changed_layer (layer.All parts) = flat_map (λ part. part) parts
changed_layer (layer.Each variables body) = body
changed_layer (layer.If condition body) = body
changed_layer (layer.Cost at amount) = []

-- the predicates of the literals of an effect
unfoldable pub changed : Effect → List Name
changed effect = fold_effect changed_layer effect

abbrev pub changed_names : Task → List Name
changed_names T = flat_map (λ action. changed action.effect.body) T.domain.actions

abbrev pub is_static : Task → Name → Bool
is_static T name = not (has_name (changed_names T) name)

-- in the state what no effect changes is as at the start
abbrev pub IsSettled : Task → State → Type 0
IsSettled T s = (fact : Fact) → is_static T fact.name ≡ true → has_fact s fact ≡ has_fact (start T) fact
