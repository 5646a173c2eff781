-- The types that are declared directly below others, and those that a search finds.
use Rattle.std.specs.Prelude.{◌≡◌, ℕ, Bool, List, [], ◌∷◌, ◌++◌, map, flat_map, filter_map, if◌then◌else◌, Option, Some, None, Contains}
use denote.Ref.{Bor}
use Rattle.p3_task.specs.Names.{Name, same_name}
use Rattle.p3_task.specs.Types.{pair_of, is_below_some}
use Rattle.p3_task.specs.declared.term.Ref.{Ref}
use Rattle.p3_task.specs.declared.task.Task.{Task}
use Rattle.p3_task.specs.Laws.{Chain}
use Rattle.p3_task.specs.declared.task.Kind.{Kind}

-- the lower types of those pairs that have this higher one
abbrev pub lows_under : List (Name × Name) → Name → List Name
lows_under pairs high = flat_map (λ pair. if same_name pair.1 high then pair.0 ∷ [] else []) pairs

-- ---- a table of them

abbrev pub Lookup : Type 0
Lookup = Bor (List ℕ) → Option (List (Bor (List ℕ)))

abbrev pub words_in : Option (List (Bor (List ℕ))) → List Name
words_in None = []
words_in (Some words) = map (λ word. word.now) words

-- the new table has these pairs behind those of the old one
abbrev pub FilesPairs : List (Name × Name) → Lookup → Lookup → Type 0
FilesPairs pairs old new = (high : Bor (List ℕ)) → words_in (new high) ≡ words_in (old high) ++ lows_under pairs high.now

abbrev pub Files : Name → Name → Lookup → Lookup → Type 0
Files low high old new = FilesPairs ((low, high) ∷ []) old new

abbrev pub FilesKind : Kind → Lookup → Lookup → Type 0
FilesKind kind old new = FilesPairs (filter_map pair_of (kind ∷ [])) old new

-- the table has the pairs of the declared types, in their order
abbrev pub AreFiled : List Kind → Lookup → Type 0
AreFiled kinds table = (high : Bor (List ℕ)) → words_in (table high) ≡ lows_under (filter_map pair_of kinds) high.now

-- ---- the search

-- pairs lead from the type to one of those listed
pub record IsLed (pairs : List (Name × Name)) (highs : List Name) (low : Name) : Type 0 where
  pub high : Name
  pub listed : Contains highs high
  pub chain : Chain pairs low high

-- the test tells which types are below one of those listed
abbrev pub IsBelowTest : Task → List Ref → (Name → Bool) → Type 0
IsBelowTest T types test = (name : Name) → test name ≡ is_below_some T types name
