-- Names of a task, and when two of them are the same.
use Rattle.std.specs.Prelude.{Bool, true, false, List, [], ◌∷◌, codes}
use lib.Pointwise.{pointwise}
pub use Rattle.p3_base.specs.Words.{Name, same_name, has_name, total_cost}

abbrev pub same_names : List Name → List Name → Bool
same_names = pointwise same_name

-- the type that each type is below
abbrev pub object_type : Name
object_type = codes "object"

abbrev pub is_empty : {A : Type 0} → List A → Bool
is_empty [] = true
is_empty (first ∷ others) = false
