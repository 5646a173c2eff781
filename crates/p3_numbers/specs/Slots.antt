-- Numbers in the place of names, and objects in the slots of variables.
use Rattle.std.specs.Prelude.{ℕ, List, [], ◌∷◌, ◌++◌, map, flat_map, slice_index_or}
use Rattle.p3_task.specs.Names.{Name}
use Rattle.p3_task.specs.declared.state.Fact.{Fact}
use Rattle.p3_numbers.specs.declared.condition.NumberedArgument.{NumberedArgument}
use Rattle.p3_numbers.specs.declared.condition.NumberedArgument.TheVariants.{Slot, Object}
use Rattle.p3_numbers.specs.declared.numbers.Numbers.{Numbers}

-- the objects that the variables mean, that of the outermost first
abbrev pub Slots : Type 0
Slots = List ℕ

abbrev pub value_of : Slots → NumberedArgument → ℕ
value_of slots (Slot place) = slice_index_or slots place 0
value_of slots (Object number) = number

abbrev pub values_of : Slots → List NumberedArgument → List ℕ
values_of slots args = map (value_of slots) args

abbrev pub name_at : List Name → ℕ → Name
name_at names number = slice_index_or names number []

abbrev pub object_names : Numbers → List ℕ → List Name
object_names N objects = map (name_at N.objects) objects

-- the atom of a predicate at arguments
abbrev pub fact_at : Numbers → Slots → ℕ → List NumberedArgument → Fact
fact_at N slots predicate args = record { name = name_at N.predicates predicate; args = object_names N (values_of slots args) }

abbrev pub range_at : Numbers → ℕ → List ℕ
range_at N range = slice_index_or N.ranges range []

-- one object of each range, that of the first range changing slowest
unfoldable pub tuples_of : Numbers → List ℕ → List (List ℕ)
tuples_of N [] = [] ∷ []
tuples_of N (range ∷ ranges) = flat_map (λ object. map (λ rest. object ∷ rest) (tuples_of N ranges)) (range_at N range)

-- the slots with those of one list of variables more, in the order of the tuples
abbrev pub bound : Numbers → Slots → List ℕ → List Slots
bound N slots ranges = map (λ tuple. slots ++ tuple) (tuples_of N ranges)
