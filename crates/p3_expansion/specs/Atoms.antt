-- Ground atoms: a predicate and its objects, as numbers.
use Rattle.std.specs.Prelude.{◌≡◌, ℕ, ◌≤◌, nat_lt, Bool, true, false, ◌&&◌, List, [], ◌∷◌, ◌++◌, length, slice_get, Some, bytes_eq, if◌then◌else◌}
use Rattle.std.specs.List.{list_any, list_all}
use Rattle.p3_task.specs.declared.state.Fact.{Fact}
use Rattle.p3_numbers.specs.Slots.{Slots, values_of, name_at, object_names}
use Rattle.p3_numbers.specs.declared.condition.NumberedArgument.{NumberedArgument}
use Rattle.p3_numbers.specs.declared.numbers.Numbers.{Numbers}

-- the number of the predicate, and then those of the objects
abbrev pub GroundAtom : Type 0
GroundAtom = List ℕ

-- a predicate at what its arguments mean
abbrev pub atom_at : Slots → ℕ → List NumberedArgument → GroundAtom
atom_at slots predicate args = predicate ∷ values_of slots args

-- what the atom says
abbrev pub fact_of : Numbers → GroundAtom → Fact
fact_of N [] = record { name = []; args = [] }
fact_of N (predicate ∷ objects) = record { name = name_at N.predicates predicate; args = object_names N objects }

-- its predicate and its objects have names
abbrev pub is_named : Numbers → GroundAtom → Bool
is_named N [] = false
is_named N (predicate ∷ objects) = nat_lt predicate (length N.predicates) && list_all (λ object. nat_lt object (length N.objects)) objects

abbrev pub are_named : Numbers → List GroundAtom → Bool
are_named N atoms = list_all (is_named N) atoms

-- ---- lists of atoms, in which an atom's number is its place

-- a new atom goes last
abbrev pub with_atom : List GroundAtom → GroundAtom → List GroundAtom
with_atom atoms atom = if list_any (bytes_eq atom) atoms then atoms else atoms ++ atom ∷ []

-- no atom has two numbers
pub record AreDistinct (atoms : List GroundAtom) : Type 0 where
  pub one_number : (first second : ℕ) (atom : GroundAtom) → slice_get atoms first ≡ Some atom → slice_get atoms second ≡ Some atom → first ≡ second

-- atoms keep their numbers
pub record Keeps (old new : List GroundAtom) : Type 0 where
  pub longer : length old ≤ length new
  pub kept : (k : ℕ) (atom : GroundAtom) → slice_get old k ≡ Some atom → slice_get new k ≡ Some atom

-- each new atom is one of those: what all old atoms and all of those pass, all pass
pub record Brings (those old new : List GroundAtom) : Type 0 where
  pub passed : (passes : GroundAtom → Bool) → list_all passes old ≡ true → list_all passes those ≡ true → list_all passes new ≡ true
