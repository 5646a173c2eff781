-- Effects and the next state (ADL's effects). All conditions are read in the state before the step.
use Rattle.std.specs.Prelude.{not, List, [], ◌∷◌, ◌++◌, filter, flat_map, if◌then◌else◌}
use Rattle.p3_task.specs.Folds.{fold_effect}
use Rattle.p3_task.specs.States.{State, Environment, has_fact, fact_of}
use Rattle.p3_task.specs.Bindings.{bind}
use Rattle.p3_task.specs.Formulas.{holds}
use Rattle.p3_task.specs.declared.state.Fact.{Fact}
use Rattle.p3_task.specs.declared.effect.Effect.{Effect}
use Rattle.p3_task.specs.declared.effect.Effect.TheOpen.{Effect-F, Add, Del, All, Each, If, Cost}
use Rattle.p3_task.specs.declared.task.Task.{Task}

-- the literals that take place, where `added` and `deleted` say what an added and a deleted atom give
abbrev pub literals_layer : (Fact → List Fact) → (Fact → List Fact) → Task → State → Effect-F (Environment → List Fact) → Environment → List Fact
literals_layer added deleted T s (Add pred args) env = added (fact_of env pred args)
literals_layer added deleted T s (Del pred args) env = deleted (fact_of env pred args)
literals_layer added deleted T s (All parts) env = flat_map (λ part. part env) parts
literals_layer added deleted T s (Each variables body) env = flat_map body (bind T env variables)
literals_layer added deleted T s (If condition body) env = if holds T s env condition then body env else []
literals_layer added deleted T s (Cost at amount) env = []

abbrev pub adds_layer : Task → State → Effect-F (Environment → List Fact) → Environment → List Fact
adds_layer = literals_layer (λ fact. fact ∷ []) (λ fact. [])

abbrev pub dels_layer : Task → State → Effect-F (Environment → List Fact) → Environment → List Fact
dels_layer = literals_layer (λ fact. []) (λ fact. fact ∷ [])

-- the atoms that the effect adds, and those that it deletes
unfoldable pub adds : Task → State → Environment → Effect → List Fact
adds T s env effect = fold_effect (adds_layer T s) effect env

unfoldable pub dels : Task → State → Environment → Effect → List Fact
dels T s env effect = fold_effect (dels_layer T s) effect env

-- the old state without the deleted atoms, and then with the added ones: an add wins over a delete
unfoldable pub next : Task → State → Environment → Effect → State
next T s env effect = adds T s env effect ++ filter (λ fact. not (has_fact (dels T s env effect) fact)) s
