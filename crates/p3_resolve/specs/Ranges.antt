-- The lists of types of a task, each once, and the objects of each.
use Rattle.std.specs.Prelude.{◌≡◌, ℕ, ◌<◌, List, [], ◌∷◌, map, fold, length, All}
use Rattle.std.specs.List.Sorted.{IsStrictlyIncreasing}
use Rattle.p3_numbers.specs.Names.{with_list}
use Rattle.p3_hierarchy.specs.Objects.{object_names, name_at}
use Rattle.p3_numbers.specs.Tasks.{HasNames}
use Rattle.p3_numbers.specs.declared.numbers.Numbers.{Numbers}
use Rattle.p3_resolve.specs.Listed.{task_lists}
use Rattle.p3_task.specs.Names.{Name}
use Rattle.p3_task.specs.Types.{names_of, objects}
use Rattle.p3_task.specs.declared.task.Task.{Task}
use Rattle.p3_task.specs.declared.term.Ref.{Ref}

-- the numbers are those of the objects of the types with these names
pub record IsRange (T : Task) (names : List Name) (range : List ℕ) : Type 0 where
  pub named : (types : List Ref) → names_of types ≡ names → map (name_at (object_names T)) range ≡ objects T types
  pub rising : IsStrictlyIncreasing range
  pub within : All (λ number. number < length (object_names T)) range

-- as many ranges as lists, each the list's
abbrev pub HaveRanges : Task → List (List Name) → List (List ℕ) → Type 0
HaveRanges T [] [] = Unit {0}
HaveRanges T [] (range ∷ ranges) = ⊥
HaveRanges T (names ∷ types) [] = ⊥
HaveRanges T (names ∷ types) (range ∷ ranges) = IsRange T names range × HaveRanges T types ranges

-- the names of the lists, each list once
abbrev pub lists_once : List (List Ref) → List (List Name)
lists_once lists = fold with_list [] (map names_of lists)

-- the numbers of the names, of the lists of types and of the objects of each
pub record AreNumbers (T : Task) (N : Numbers) : Type 0 where
  pub names : HasNames T N
  pub types : N.types ≡ lists_once (task_lists T)
  pub ranges : HaveRanges T N.types N.ranges
