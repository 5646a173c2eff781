-- What fits a list of types.
use Rattle.std.specs.Prelude.{◌≡◌, ℕ, Bool, true, List, [], ◌∷◌, flat_map, map, slice_get, slice_index_or, if◌then◌else◌, Option, Some, None}
use Rattle.std.specs.List.{list_any, list_all}
use Rattle.p3_task.specs.Names.{Name, has_name}
use Rattle.p3_task.specs.Types.{declared_objects, is_below_some, is_object_of, type_names}
use Rattle.p3_task.specs.declared.term.Ref.{Ref}
use Rattle.p3_task.specs.declared.term.Typed.{Typed}
use Rattle.p3_task.specs.declared.task.Task.{Task}
use Rattle.p3_hierarchy.specs.Objects.{fits, name_of}
use Rattle.p3_hierarchy.specs.declared.declarations.Declaration.{Declaration}
use Rattle.p3_resolve.specs.ByNumber.{are_many, repeated_items}

abbrev pub name_where_fit : Task → List Ref → Typed → List Name
name_where_fit T types item = if fits T types item then name_of item ∷ [] else []

-- the names of the declarations that fit
abbrev pub fitting_names : Task → List Ref → List Typed → List Name
fitting_names T types items = flat_map (name_where_fit T types) items

-- the table has the names of those declarations that fit
abbrev pub AreNamesFitting : Task → List Ref → List Typed → List Name → Type 0
AreNamesFitting T types items table = (name : Name) → has_name table name ≡ has_name (fitting_names T types items) name

-- the table has the objects of names repeated more than a few times that some declaration makes fit
abbrev pub HasFitting : Task → List Ref → List Name → Type 0
HasFitting T types table = AreNamesFitting T types (repeated_items (declared_objects T)) table

-- ---- declarations whose numbers are their places

pub record AreInPlace (entries : List Declaration) : Type 0 where
  pub each : (place : ℕ) (entry : Declaration) → slice_get entries place ≡ Some entry → entry.number ≡ place

-- the name of the declaration at a place
abbrev pub name_in : List Declaration → ℕ → Name
name_in entries place = slice_index_or (map (λ (entry : Declaration). name_of entry.declared.now) entries) place []

-- what is found of an object with these declarations: where they are more than a few it is in the table, and else one of them fits
abbrev pub found_fits : Task → List Ref → List Typed → List Name → Name → Bool
found_fits T types items table name = if are_many items then has_name table name else list_any (fits T types) items

-- whether an object is of the types of a parameter; where there is no parameter each is
abbrev pub object_fits_at : Task → Option Typed → Name → Bool
object_fits_at T None object = true
object_fits_at T (Some parameter) object = is_object_of T parameter.types object

-- whether each of a variable's types is below one of those of a parameter
abbrev pub variable_fits_at : Task → Option Typed → Typed → Bool
variable_fits_at T None variable = true
variable_fits_at T (Some parameter) variable = list_all (is_below_some T parameter.types) (type_names variable.types)
