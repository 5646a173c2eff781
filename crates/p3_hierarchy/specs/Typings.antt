-- The numbers of declarations, by the types that these name.
use Rattle.std.specs.Prelude.{◌≡◌, ℕ, true, List, [], ◌∷◌, ◌++◌, flat_map, if◌then◌else◌, Option, Some, None, All, Contains}
use denote.Ref.{Bor}
use Rattle.p3_task.specs.Names.{Name, same_name}
use Rattle.p3_task.specs.Types.{type_names}
use Rattle.p3_task.specs.declared.term.Ref.{Ref}
use Rattle.p3_task.specs.declared.task.Task.{Task}
use Rattle.p3_hierarchy.specs.Objects.{fits}
use Rattle.p3_hierarchy.specs.declared.declarations.Declaration.{Declaration}

-- a number with each of these types
abbrev pub typed : ℕ → List Name → List (Name × ℕ)
typed number kinds = flat_map (λ kind. (kind, number) ∷ []) kinds

-- the number of each declaration with each of its types
abbrev pub typings_of : List Declaration → List (Name × ℕ)
typings_of entries = flat_map (λ (entry : Declaration). typed entry.number (type_names entry.declared.now.types)) entries

-- the numbers that stand with the type
abbrev pub numbers_under : List (Name × ℕ) → Name → List ℕ
numbers_under typings kind = flat_map (λ typing. if same_name typing.0 kind then typing.1 ∷ [] else []) typings

-- ---- a table of them

abbrev pub Lookup : Type 0
Lookup = Bor (List ℕ) → Option (List ℕ)

abbrev pub numbers_in : Option (List ℕ) → List ℕ
numbers_in None = []
numbers_in (Some numbers) = numbers

-- the new table has these numbers behind those of the old one
abbrev pub FilesNumbers : List (Name × ℕ) → Lookup → Lookup → Type 0
FilesNumbers typings old new = (kind : Bor (List ℕ)) → numbers_in (new kind) ≡ numbers_in (old kind) ++ numbers_under typings kind.now

abbrev pub FilesNumber : Name → ℕ → Lookup → Lookup → Type 0
FilesNumber kind number old new = FilesNumbers ((kind, number) ∷ []) old new

-- the table has these numbers, in their order
abbrev pub AreNumbered : List (Name × ℕ) → Lookup → Type 0
AreNumbered typings table = (kind : Bor (List ℕ)) → numbers_in (table kind) ≡ numbers_under typings kind.now

-- ---- the declarations that fit a list of types

-- the number of a declaration that fits
pub record IsFitting (T : Task) (types : List Ref) (entries : List Declaration) (number : ℕ) : Type 0 where
  pub entry : Declaration
  pub listed : Contains entries entry
  pub is : entry.number ≡ number
  pub fits : fits T types entry.declared.now ≡ true

-- these are the numbers of the declarations that fit, in any order, and each perhaps more than once
pub record AreFitting (T : Task) (types : List Ref) (entries : List Declaration) (numbers : List ℕ) : Type 0 where
  pub sound : All (IsFitting T types entries) numbers
  pub all : All (λ (entry : Declaration). fits T types entry.declared.now ≡ true → Contains numbers entry.number) entries

abbrev pub number_where_fit : Task → List Ref → Declaration → List ℕ
number_where_fit T types entry = if fits T types entry.declared.now then entry.number ∷ [] else []
