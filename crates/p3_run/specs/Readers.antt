-- Which operators read an atom: for each atom a list of them.
use Rattle.std.specs.Prelude.{◌≡◌, ℕ, ◌-◌, ◌<◌, ◌==◌, Bool, true, false, if◌then◌else◌, ◌&&◌, ◌⊎◌, List, [], ◌∷◌, ◌++◌, length, slice_get, slice_index_or, slice_set, fold, Option, Some, None}
use Rattle.std.specs.List.{All, list_any}
use Rattle.p3_formula.specs.Modals.{is_read}
use Rattle.p3_formula.specs.declared.task.GroundTask.{GroundTask}
use Rattle.p3_run.specs.Groups.{modal_at, IsReader}
use Rattle.p3_run.specs.declared.readers.OperatorReader.{OperatorReader}

abbrev pub readers_at : List (List OperatorReader) → ℕ → List OperatorReader
readers_at readers atom = slice_index_or readers atom []

abbrev pub is_same : OperatorReader → OperatorReader → Bool
is_same reader other = (other.group == reader.group) && (other.place == reader.place)

abbrev pub is_same_by : OperatorReader → Option OperatorReader → Bool
is_same_by reader None = false
is_same_by reader (Some other) = is_same reader other

-- it is the last of those
abbrev pub ends : OperatorReader → List OperatorReader → Bool
ends reader those = is_same_by reader (slice_get those (length those - 1))

-- it stands behind them, once
abbrev pub with_reader : OperatorReader → List OperatorReader → List OperatorReader
with_reader reader those = if ends reader those then those else those ++ reader ∷ []

-- it reads the atom, too
abbrev pub filed : OperatorReader → List (List OperatorReader) → ℕ → List (List OperatorReader)
filed reader readers atom = slice_set readers atom (with_reader reader (readers_at readers atom))

abbrev pub filed_all : OperatorReader → List (List OperatorReader) → List ℕ → List (List OperatorReader)
filed_all reader readers atoms = fold (filed reader) readers atoms

-- it stands with each atom that it reads
abbrev pub IsFiled : GroundTask → List (List OperatorReader) → OperatorReader → Type 0
IsFiled G readers reader = (atom : ℕ) → is_read (modal_at G reader) atom ≡ true → list_any (is_same reader) (readers_at readers atom) ≡ true

-- its group comes before that one, or it is that one and its place comes before that place
abbrev pub IsBefore : ℕ → ℕ → OperatorReader → Type 0
IsBefore group place reader = (reader.group < group) ⊎ ((reader.group ≡ group) × (reader.place < place))

-- all that come before are filed, and nothing else is
pub record AreFiledTo (G : GroundTask) (group place : ℕ) (readers : List (List OperatorReader)) : Type 0 where
  pub atoms : length readers ≡ G.atoms
  pub within : (atom : ℕ) → All (IsReader G) (readers_at readers atom)
  pub filed : (reader : OperatorReader) → IsReader G reader → IsBefore group place reader → IsFiled G readers reader

-- each operator is filed, and nothing else is
pub record AreReaders (G : GroundTask) (readers : List (List OperatorReader)) : Type 0 where
  pub atoms : length readers ≡ G.atoms
  pub within : (atom : ℕ) → All (IsReader G) (readers_at readers atom)
  pub filed : (reader : OperatorReader) → IsReader G reader → IsFiled G readers reader
