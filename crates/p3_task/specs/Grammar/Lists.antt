-- Terms, and lists of typed names.
use Rattle.std.specs.Prelude.{Bool, true, false, not, ◌&&◌, List, [], ◌∷◌, ◌++◌, map, fold, codes, if◌then◌else◌, Option, Some, None, is_some, unwrap_or}
use Rattle.std.specs.Option.{option_or}
use Rattle.p3_task.specs.Names.{same_name, is_empty}
use Rattle.p3_task.specs.Grammar.Words.{◌>>=◌, Place, parts_place, name_place, variable_place, is_word, each_at, headed}
use Rattle.p3_task.specs.declared.expression.Expression.{Expression}
use Rattle.p3_task.specs.declared.term.Ref.{Ref}
use Rattle.p3_task.specs.declared.term.Term.{Term}
use Rattle.p3_task.specs.declared.term.Term.TheVariants.{Var, Const}
use Rattle.p3_task.specs.declared.term.Typed.{Typed}

-- term: name | variable
abbrev pub term_place : Place Term
term_place e = option_or (name_place e >>= λ name. Some (Const name)) (variable_place e >>= λ name. Some (Var name))

-- an object: name, where no variable may stand
abbrev pub object_place : Place Term
object_place e = name_place e >>= λ name. Some (Const name)

-- ---- types

-- `(either` name+ `)`
abbrev pub either_in : List Expression → Option (List Ref)
either_in parts = do
  list ← headed (λ (part : Expression). part) parts
  if same_name list.0.name (codes "either") && not (is_empty list.1) then each_at name_place list.1 else None

-- type: name | `(either` name+ `)`
abbrev pub type_place : Place (List Ref)
type_place e = option_or (name_place e >>= λ name. Some (name ∷ [])) (parts_place e >>= either_in)

-- the type of objects: name
abbrev pub one_type_place : Place (List Ref)
one_type_place e = name_place e >>= λ name. Some (name ∷ [])

-- ---- groups `item+ - type`, and then items without a type

-- the items with their types so far, and those that wait for theirs; behind a `-` the type comes next
pub record Scan (A B : Type 0) : Type 0 where
  pub typed : List (A × Option B)
  pub waiting : List A
  pub is_type_next : Bool

abbrev pub is_dash : Expression → Bool
is_dash e = is_some (is_word (codes "-") e)

abbrev pub with_type : {A B : Type 0} → Scan A B → B → Scan A B
with_type scan type = record { typed = scan.typed ++ map (λ item. (item, Some type)) scan.waiting; waiting = []; is_type_next = false }

abbrev pub with_item : {A B : Type 0} → Scan A B → A → Scan A B
with_item scan item = record { typed = scan.typed; waiting = scan.waiting ++ item ∷ []; is_type_next = false }

abbrev pub scanned : {A B : Type 0} → Place A → Place B → Option (Scan A B) → Expression → Option (Scan A B)
scanned item type state e = do
  scan ← state
  if scan.is_type_next then (type e >>= λ found. Some (with_type scan found))
      else (if is_dash e && not (is_empty scan.waiting) then Some (record scan { is_type_next = true })
      else (item e >>= λ found. Some (with_item scan found)))

abbrev pub all_scanned : {A B : Type 0} → Scan A B → Option (List (A × Option B))
all_scanned scan = if scan.is_type_next then None else Some (scan.typed ++ map (λ item. (item, None)) scan.waiting)

-- the items of a list, each with its type where it has one
abbrev pub grouped : {A B : Type 0} → Place A → Place B → List Expression → Option (List (A × Option B))
grouped item type list = fold (scanned item type) (Some (record { typed = []; waiting = []; is_type_next = false })) list >>= all_scanned

-- ---- lists of variables and of objects

abbrev pub typed_item : Ref × Option (List Ref) → Typed
typed_item item = record { name = item.0; types = unwrap_or item.1 [] }

-- variable-list: variable-group* variable*, where variable-group is variable+ `-` type
abbrev pub variables_in : List Expression → Option (List Typed)
variables_in list = grouped variable_place type_place list >>= λ items. Some (map typed_item items)

-- `(` variable-list `)`
abbrev pub variables_place : Place (List Typed)
variables_place e = parts_place e >>= variables_in

-- object-list: object-group* name*, where object-group is name+ `-` name
abbrev pub objects_in : List Expression → Option (List Typed)
objects_in list = grouped name_place one_type_place list >>= λ items. Some (map typed_item items)
