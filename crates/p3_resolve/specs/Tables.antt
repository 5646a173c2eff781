-- Tables of what a task declares.
use Rattle.std.specs.Prelude.{◌≡◌, ℕ, ◌+◌, ◌<◌, ◌^◌, Bool, List, [], ◌∷◌, ◌++◌, length, position, slice_get, if◌then◌else◌, Option, Some, None, option_map, option_and_then}
use Rattle.std.specs.List.{position_or_len}
use Rattle.std.specs.Option.{option_or}
use denote.Ref.{Bor}
use Rattle.p3_task.specs.Names.{Name, same_name, has_name}
use Rattle.p3_task.specs.declared.term.Ref.{Ref}
use Rattle.p3_task.specs.declared.term.Typed.{Typed}
use Rattle.p3_task.specs.declared.task.Header.{Header}
use Rattle.p3_task.specs.declared.task.Task.{Task}
use Rattle.p3_resolve.specs.Numbers.{headers_of}
use Rattle.p3_resolve.specs.declared.tables.Declared.{Declared}

-- a table has these names and no others
abbrev pub Has : List Name → List Name → Type 0
Has table names = ◌≡◌ {A = Name → Bool} (has_name table) (has_name names)

-- the name of a word, where there is one
abbrev pub name_of_word : Option Ref → List Name
name_of_word None = []
name_of_word (Some word) = word.name ∷ []

-- ---- the place of the first item of each name

abbrev pub is_called : {A : Type 0} → (A → Ref) → Name → A → Bool
is_called word_of name item = same_name (word_of item).name name

-- the look-up finds the place of the first of the items that has the name
abbrev pub FindsFirst : {A : Type 0} → (A → Ref) → List A → (Bor (List ℕ) → Option ℕ) → Type 0
FindsFirst word_of items found = ◌≡◌ {A = Bor (List ℕ) → Option ℕ} found (λ name. position (is_called word_of name.now) items)

-- the place more, where none of its item's name is found
abbrev pub AddsFirst : {A : Type 0} → (A → Ref) → (Bor (List ℕ) → Option ℕ) → ℕ → A → (Bor (List ℕ) → Option ℕ) → Type 0
AddsFirst word_of old place item new = (name : Bor (List ℕ)) → new name ≡ option_or (old name) (if is_called word_of name.now item then Some place else None)

-- the place of the first item of the name; what is nowhere has the number behind the last
abbrev pub first_place : {A : Type 0} → (A → Ref) → List A → Name → ℕ
first_place word_of items name = position_or_len (is_called word_of name) items

-- ---- predicates and functions

abbrev pub header_of : Option Declared → Option Header
header_of found = option_map (λ one. one.header.now) found

-- the number leads to the header
abbrev pub IsNumbered : Task → Option Declared → Type 0
IsNumbered T found = option_and_then (λ (one : Declared). slice_get (headers_of T) one.number) found ≡ header_of found

-- the same of headers that stand behind so many others
abbrev pub IsNumberedFrom : ℕ → List Header → Option Declared → Type 0
IsNumberedFrom others headers found = (before after : List Header) → length before ≡ others
    → option_and_then (λ (one : Declared). slice_get (before ++ (headers ++ after)) one.number) found ≡ header_of found

-- the parameter at a place of a header
abbrev pub parameter_of : Option Declared → ℕ → Option Typed
parameter_of found place = option_and_then (λ (one : Declared). slice_get one.header.now.params place) found

-- the numbers of all predicates and functions fit a word of the machine
abbrev pub AreCounted : Task → Type 0
AreCounted T = length T.domain.predicates + length T.domain.functions < 2 ^ 64
