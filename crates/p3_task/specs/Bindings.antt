-- The bindings of variables to objects of their types.
use Rattle.std.specs.Prelude.{Bool, true, false, ◌&&◌, List, [], ◌∷◌, map, flat_map}
use Rattle.p3_task.specs.Names.{Name, has_name}
use Rattle.p3_task.specs.Types.{objects}
use Rattle.p3_task.specs.States.{Environment}
use Rattle.p3_task.specs.declared.term.Typed.{Typed}
use Rattle.p3_task.specs.declared.task.Task.{Task}

-- one object of the right type for each variable, the object of the first variable changing slowest
unfoldable pub tuples : Task → List Typed → List (List Name)
tuples T [] = [] ∷ []
tuples T (variable ∷ variables) = flat_map (λ object. map (λ rest. object ∷ rest) (tuples T variables)) (objects T variable.types)

-- the environment with each variable bound to the object at its place
abbrev pub extended : Environment → List Typed → List Name → Environment
extended env [] tuple = env
extended env (variable ∷ variables) [] = env
extended env (variable ∷ variables) (object ∷ tuple) = extended (record { variable = variable.name.name; object = object } ∷ env) variables tuple

-- the environments that bind the variables, in the order of the tuples
unfoldable pub bind : Task → Environment → List Typed → List Environment
bind T env variables = map (extended env variables) (tuples T variables)

-- whether the arguments are as many as the parameters, and objects of their types
unfoldable pub are_arguments : Task → List Typed → List Name → Bool
are_arguments T [] [] = true
are_arguments T [] (object ∷ tuple) = false
are_arguments T (parameter ∷ parameters) [] = false
are_arguments T (parameter ∷ parameters) (object ∷ tuple) = has_name (objects T parameter.types) object && are_arguments T parameters tuple
