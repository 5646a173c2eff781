-- What fits a list of types.
use Rattle.std.proofs.Common.{◌≡◌, ◌∙◌, Bool, true, false, cond, ◌&&◌, ◌||◌, if◌then◌else◌, List, [], ◌∷◌, ◌++◌, refl, sym, ap, true≢false}
use Rattle.std.specs.List.{list_any}
use Rattle.std.proofs.lemmas.Slice.Eq.{bytes_eq-Decides}
use Rattle.p3_task.specs.Names.{Name, same_name, has_name, object_type}
use Rattle.p3_task.specs.Types.{below, declared_objects, is_below_some, is_object_of, names_of, type_names}
use Rattle.p3_task.specs.declared.term.Ref.{Ref}
use Rattle.p3_task.specs.declared.term.Typed.{Typed}
use Rattle.p3_task.specs.declared.task.Task.{Task}
use Rattle.p3_hierarchy.specs.Objects.{fits, is_among, name_of}
use Rattle.p3_resolve.specs.ByNumber.{declared_as, is_repeated, repeated_in, repeated_items}
use Rattle.p3_resolve.specs.Fitting.{fitting_names, HasFitting, found_fits}

module _ (T : Task) (types : List Ref) (object : Name) where
  abbrev one_fits : Typed → Bool
  one_fits = fits T types

  abbrev some_fits : List Typed → Bool
  some_fits items = is_among one_fits items object

  -- among the declarations of its name
  among-named : (items : List Typed) → list_any one_fits (declared_as object items) ≡ some_fits items
  among-named [] = refl
  among-named (item ∷ items) = by (same_name (name_of item) object) (among-named items)
    where
      by : (same : Bool) → list_any one_fits (declared_as object items) ≡ some_fits items
          → list_any one_fits (cond same (item ∷ declared_as object items) (declared_as object items)) ≡ ((same && one_fits item) || some_fits items)
      by true rest = ap (λ later. one_fits item || later) rest
      by false rest = rest

  -- among the names of those that fit
  names-fit : (items : List Typed) → has_name (fitting_names T types items) object ≡ some_fits items
  names-fit [] = refl
  names-fit (item ∷ items) = by (one_fits item) (names-fit items)
    where
      by : (passes : Bool) → has_name (fitting_names T types items) object ≡ some_fits items
          → has_name ((if passes then name_of item ∷ [] else []) ++ fitting_names T types items) object ≡ ((same_name (name_of item) object && passes) || some_fits items)
      by true rest = (λ i. sym (and-true (same_name (name_of item) object)) i || rest i)
        where
          and-true : (a : Bool) → (a && true) ≡ a
          and-true true = refl
          and-true false = refl
      by false rest = rest ∙ ap (λ same. same || some_fits items) (sym (and-false (same_name (name_of item) object)))
        where
          and-false : (a : Bool) → (a && false) ≡ false
          and-false true = refl
          and-false false = refl

  -- among those of repeated names, where its own is
  repeated-among : (all items : List Typed) → is_repeated all object ≡ true → some_fits (repeated_in all items) ≡ some_fits items
  repeated-among all [] told = refl
  repeated-among all (item ∷ items) told = by (is_repeated all (name_of item)) refl (same_name (name_of item) object) refl (repeated-among all items told)
    where
      by : (repeats : Bool) → is_repeated all (name_of item) ≡ repeats → (same : Bool) → same_name (name_of item) object ≡ same
          → some_fits (repeated_in all items) ≡ some_fits items → some_fits (cond repeats (item ∷ repeated_in all items) (repeated_in all items)) ≡ some_fits (item ∷ items)
      by true repeats same is rest = ap (λ later. (same_name (name_of item) object && one_fits item) || later) rest
      by false once true is rest = absurd (true≢false (sym told ∙ ap (is_repeated all) (sym ((bytes_eq-Decides (name_of item) object).0 is)) ∙ once))
      by false once false is rest = rest ∙ (λ i. (sym is i && one_fits item) || some_fits items)

  pub object-fits : (table : List Name) → HasFitting T types table → (items : List Typed) → items ≡ declared_as object (declared_objects T) → found_fits T types items table object ≡ is_object_of T types object
  object-fits table told items are = ap (λ found. found_fits T types found table object) are ∙ by (is_repeated all object) refl
    where
      all : List Typed
      all = declared_objects T

      by : (repeats : Bool) → is_repeated all object ≡ repeats → (if repeats then has_name table object else list_any one_fits (declared_as object all)) ≡ some_fits all
      by true repeats = told object ∙ names-fit (repeated_items all) ∙ repeated-among all all repeats
      by false once = among-named all

-- ---- lists of the same types

abbrev named : List Name → List Name
named [] = object_type ∷ []
named (first ∷ others) = first ∷ others

type-names : (types : List Ref) → type_names types ≡ named (names_of types)
type-names [] = refl
type-names (first ∷ others) = refl

pub same-below : (T : Task) (types others : List Ref) → names_of types ≡ names_of others → ◌≡◌ {A = Name → Bool} (is_below_some T types) (is_below_some T others)
same-below T types others same = λ i low. list_any (λ high. below T low high) ((type-names types ∙ ap named same ∙ sym (type-names others)) i)

pub same-objects : (T : Task) (types others : List Ref) (object : Name) → names_of types ≡ names_of others → is_object_of T types object ≡ is_object_of T others object
same-objects T types others object same =
    λ i. list_any (λ (declared : Typed). same_name declared.name.name object && list_any (same-below T types others same i) (type_names declared.types)) (declared_objects T)
