-- The literals of an effect under all bindings of its `forall` effects, each with the conditions under which it takes place (ADL's effects).
use Rattle.std.specs.Prelude.{Bool, true, false, not, ◌&&◌, List, [], ◌∷◌, map, flat_map}
use Rattle.std.specs.List.{list_all}
use Rattle.p3_task.specs.Folds.{fold_effect}
use Rattle.p3_task.specs.States.{State, Environment, same_fact, fact_of}
use Rattle.p3_task.specs.Bindings.{bind}
use Rattle.p3_task.specs.Formulas.{holds}
use Rattle.p3_task.specs.declared.state.Fact.{Fact}
use Rattle.p3_task.specs.declared.formula.Formula.{Formula}
use Rattle.p3_task.specs.declared.effect.Effect.{Effect}
use Rattle.p3_task.specs.declared.effect.Effect.TheOpen as layer
use Rattle.p3_task.specs.declared.task.Task.{Task}

-- a formula at a binding of its variables
pub record Condition : Type 0 where
  pub formula : Formula
  pub env : Environment

-- an atom that is added or deleted, with the conditions of each `when` above it, the outermost first
pub record Literal : Type 0 where
  pub add : Bool
  pub fact : Fact
  pub conditions : List Condition

abbrev pub under : Formula → Environment → Literal → Literal
under formula env literal = record literal { conditions = record { formula = formula; env = env } ∷ literal.conditions }

abbrev pub literals_layer : Task → layer.Effect-F (Environment → List Literal) → Environment → List Literal
literals_layer T (layer.Add pred args) env = record { add = true; fact = fact_of env pred args; conditions = [] } ∷ []
literals_layer T (layer.Del pred args) env = record { add = false; fact = fact_of env pred args; conditions = [] } ∷ []
literals_layer T (layer.All parts) env = flat_map (λ part. part env) parts
literals_layer T (layer.Each variables body) env = flat_map body (bind T env variables)
literals_layer T (layer.If condition body) env = map (under condition env) (body env)
literals_layer T (layer.Cost at amount) env = []

unfoldable pub literals : Task → Environment → Effect → List Literal
literals T env effect = fold_effect (literals_layer T) effect env

-- each condition above it holds
abbrev pub takes_place : Task → State → Literal → Bool
takes_place T s literal = list_all (λ (condition : Condition). holds T s condition.env condition.formula) literal.conditions

-- it takes place and adds the fact, or deletes it
abbrev pub sets : Task → State → Fact → Literal → Bool
sets T s fact literal = literal.add && takes_place T s literal && same_fact literal.fact fact

abbrev pub clears : Task → State → Fact → Literal → Bool
clears T s fact literal = not literal.add && takes_place T s literal && same_fact literal.fact fact
