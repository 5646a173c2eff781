-- Types and the objects of a type (typing of PDDL 1.2).
use Rattle.std.specs.Prelude.{Bool, not, ◌&&◌, ◌||◌, List, [], ◌∷◌, ◌++◌, map, filter, filter_map, option_map, Option}
use Rattle.std.specs.List.{list_any}
use Rattle.p3_task.specs.Names.{Name, same_name, object_type}
use Rattle.p3_task.specs.declared.term.Ref.{Ref}
use Rattle.p3_task.specs.declared.term.Typed.{Typed}
use Rattle.p3_task.specs.declared.task.Kind.{Kind}
use Rattle.p3_task.specs.declared.task.Task.{Task}

abbrev pub names_of : List Ref → List Name
names_of refs = map (λ ref. ref.name) refs

-- ---- the order of types

-- a type and its declared parent
abbrev pub pair_of : Kind → Option (Name × Name)
pair_of kind = option_map (λ parent. (kind.name.name, parent.name)) kind.parent

abbrev pub declared_pairs : Task → List (Name × Name)
declared_pairs T = filter_map pair_of T.domain.kinds

-- whether pairs of the list lead from one type to another: without the first pair, or by way of it
abbrev pub leads : List (Name × Name) → Name → Name → Bool
leads [] low high = same_name low high
leads (pair ∷ pairs) low high = leads pairs low high || (leads pairs low pair.0 && leads pairs pair.1 high)

-- every type is below `object`; else declared pairs lead from it to the other
unfoldable pub below : Task → Name → Name → Bool
below T low high = same_name high object_type || leads (declared_pairs T) low high

-- ---- objects

-- no type stands for `object`
abbrev pub type_names : List Ref → List Name
type_names [] = object_type ∷ []
type_names (first ∷ others) = names_of (first ∷ others)

-- whether the type is below one of the listed types
abbrev pub is_below_some : Task → List Ref → Name → Bool
is_below_some T highs low = list_any (λ high. below T low high) (type_names highs)

-- constants stand before objects
abbrev pub declared_objects : Task → List Typed
declared_objects T = T.domain.constants ++ T.problem.objects

-- each name once, in the order of the first places
abbrev pub once_each : List Name → List Name
once_each [] = []
once_each (name ∷ names) = name ∷ filter (λ other. not (same_name other name)) (once_each names)

-- whether some declaration gives the object a type below one of the listed types
abbrev pub is_object_of : Task → List Ref → Name → Bool
is_object_of T types object = list_any (λ declared. same_name declared.name.name object && list_any (is_below_some T types) (type_names declared.types)) (declared_objects T)

-- the objects of the listed types, each once, in the order of first declaration
unfoldable pub objects : Task → List Ref → List Name
objects T types = filter (is_object_of T types) (once_each (map (λ declared. declared.name.name) (declared_objects T)))
