-- The lists of types of parameters, by number.
use Rattle.std.specs.Prelude.{◌≡◌, ℕ, List, ◌++◌, map, slice_get, option_and_then, Option, Some}
use denote.Ref.{Bor}
use Rattle.p3_task.specs.Names.{Name}
use Rattle.p3_task.specs.Types.{names_of}
use Rattle.p3_task.specs.declared.term.Ref.{Ref}
use Rattle.p3_task.specs.declared.term.Typed.{Typed}
use Rattle.p3_task.specs.declared.task.Header.{Header}
use Rattle.p3_task.specs.declared.task.Task.{Task}

-- the headers by their numbers: those of predicates, then those of functions
abbrev pub headers_of : Task → List Header
headers_of T = T.domain.predicates ++ T.domain.functions

-- the parameter at a place of a header
abbrev pub parameter_at : Task → ℕ → ℕ → Option Typed
parameter_at T header place = option_and_then (λ (one : Header). slice_get one.params place) (slice_get (headers_of T) header)

-- the number at a place of a list of numbers
abbrev pub number_at : List (List ℕ) → ℕ → ℕ → Option ℕ
number_at numbers header place = option_and_then (λ (one : List ℕ). slice_get one place) (slice_get numbers header)

-- the names of the types in each list
abbrev pub names_in : List (Bor (List Ref)) → List (List Name)
names_in lists = map (λ types. names_of types.now) lists

abbrev pub names_at : Typed → Option (List Name)
names_at parameter = Some (names_of parameter.types)

-- what stood at a place stands there still
abbrev pub Keeps : List (List Name) → List (List Name) → Type 0
Keeps old new = (k : ℕ) (names : List Name) → slice_get old k ≡ Some names → slice_get new k ≡ Some names

-- each parameter has the number of its list
abbrev pub AreNumbers : List (List Name) → List ℕ → List Typed → Type 0
AreNumbers lists numbers parameters = map (slice_get lists) numbers ≡ map names_at parameters

abbrev pub AreAllNumbers : List (List Name) → List (List ℕ) → List Header → Type 0
AreAllNumbers lists numbers headers = map (map (slice_get lists)) numbers ≡ map (λ header. map names_at header.params) headers

-- these headers are numbered behind others
abbrev pub NumbersMore : List Header → List (List Name) → List (List ℕ) → List (List Name) → List (List ℕ) → Type 0
NumbersMore more old_lists old lists numbers = (headers : List Header) → AreAllNumbers old_lists old headers → AreAllNumbers lists numbers (headers ++ more)
