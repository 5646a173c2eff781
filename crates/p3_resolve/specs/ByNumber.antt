-- The declarations of objects, by the numbers of the objects.
use Rattle.std.specs.Prelude.{◌≡◌, ℕ, Bool, List, [], map, filter, length, nat_lt, slice_index_or}
use denote.Ref.{Bor}
use Rattle.p3_task.specs.Names.{Name, same_name}
use Rattle.p3_task.specs.declared.term.Typed.{Typed}
use Rattle.p3_hierarchy.specs.Objects.{name_of}
use Rattle.p3_numbers.specs.Places.{number_in}

-- the declarations that have the name
abbrev pub declared_as : Name → List Typed → List Typed
declared_as name items = filter (λ item. same_name (name_of item) name) items

-- ---- a table of them

abbrev pub items_at : List (List (Bor Typed)) → ℕ → List Typed
items_at table number = map (λ (item : Bor Typed). item.now) (slice_index_or table number [])

-- with the number of each name stand the declarations that have it, in their order
abbrev pub AreFiled : List Name → List Typed → List (List (Bor Typed)) → Type 0
AreFiled names items table = (name : Name) → items_at table (number_in names name) ≡ declared_as name items

-- ---- objects that are declared more than a few times

abbrev pub few : ℕ
few = 16

abbrev pub are_many : {A : Type 0} → List A → Bool
are_many items = nat_lt few (length items)

abbrev pub is_repeated : List Typed → Name → Bool
is_repeated items name = are_many (declared_as name items)

-- those of some declarations whose name is repeated among all
abbrev pub repeated_in : List Typed → List Typed → List Typed
repeated_in all items = filter (λ item. is_repeated all (name_of item)) items

abbrev pub repeated_items : List Typed → List Typed
repeated_items items = repeated_in items items
