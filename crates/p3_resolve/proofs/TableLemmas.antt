-- Names are looked up in tables.
use Rattle.std.proofs.Common.{◌≡◌, ◌∙◌, ℕ, ◌+◌, Bool, true, false, List, [], ◌∷◌, ◌++◌, length, not, cond, Option, Some, None, refl, sym, ap, subst, arith, length-append}
use Rattle.std.specs.Prelude.{position, slice_get}
use Rattle.std.specs.List.{list_any}
use Rattle.std.proofs.lemmas.List.Folds.{find_at, list_any_at}
use Rattle.std.proofs.lemmas.List.Quantifiers.{position-Some}
use Rattle.std.proofs.lemmas.List.{get_or-append-add, get_or_append_left}
use Rattle.std.proofs.lemmas.Option.{slice_get-get_or, slice_get_within, get_or_from_slice_get}
use Rattle.p3_task.proofs.MeaningLemmas.{list_any-map}
use Rattle.p3_task.specs.Names.{Name, same_name, has_name}
use Rattle.p3_task.specs.Offences.{kind_names, is_declared, header_named}
use Rattle.p3_task.specs.PreferenceNames.{in_text_order, named_in_domain, named_in_problem, ordered_names, preference_names}
use Rattle.p3_task.specs.Types.{declared_objects}
use Rattle.p3_task.specs.declared.term.Ref.{Ref}
use Rattle.p3_task.specs.declared.term.Typed.{Typed}
use Rattle.p3_task.specs.declared.task.Header.{Header}
use Rattle.p3_task.specs.declared.task.Kind.{Kind}
use Rattle.p3_task.specs.declared.task.Task.{Task}
use Rattle.p3_numbers.proofs.PlaceLemmas.{first_within}
use Rattle.p3_numbers.specs.Places.{number_in}
use Rattle.p3_numbers.specs.Tasks.{header_names, object_words}
use Rattle.p3_numbers.specs.Names.{Adds}
use Rattle.p3_hierarchy.specs.Objects.{object_names}
use Rattle.p3_numbers.proofs.NameLemmas.{adds-append, place_behind}
use Rattle.p3_resolve.proofs.NameLemmas.{has-once, ordered-preferences}
use Rattle.p3_resolve.specs.Tables.{Has, name_of_word, first_place}

pub looked : (table names : List Name) (name : Name) → Has table names → has_name table name ≡ has_name names name
looked table names name has = λ i. has i name

pub has-adds : (table names : List Name) → Adds [] names table → Has table names
has-adds table names adds = λ i name. adds name i

kind-named : (kind : Kind) → kind_names kind ≡ kind.name.name ∷ name_of_word kind.parent
kind-named kind = by kind.name kind.parent
  where
    by : (name : Ref) (parent : Option Ref) → kind_names (record { name = name; parent = parent }) ≡ name.name ∷ name_of_word parent
    by name None = refl
    by name (Some parent) = refl

pub adds-kind : (old now new : List Name) (kind : Kind) → Adds old (kind.name.name ∷ []) now → Adds now (name_of_word kind.parent) new → Adds old (kind_names kind) new
adds-kind old now new kind before after = subst (λ names. Adds old names new) (sym (kind-named kind)) (adds-append old now new (kind.name.name ∷ []) (name_of_word kind.parent) before after)

-- ---- names that were looked up

known-place : {A : Type 0} (test : A → Bool) (xs : List A) (place : ℕ) → Some place ≡ position test xs → true ≡ list_any test xs
known-place {A} test [] place is = absurd (cc)
known-place {A} test (x ∷ xs) place is =
    let found = position-Some test (x ∷ xs) place x (sym is) in
    sym (list_any_at test (x ∷ xs) place x found.0 found.1)

unknown-place : {A : Type 0} (test : A → Bool) (xs : List A) → None ≡ position test xs → false ≡ list_any test xs
unknown-place test xs is = by (list_any test xs) refl
  where
    by : (known : Bool) → list_any test xs ≡ known → false ≡ known
    by true found =
        let below = first_within test xs found in
        let behind = place_behind test xs (sym is) in
        absurd (omega (arith, below, behind))
    by false found = refl

module _ (names : List Name) (name : Name) where
  pub name-known : (place : ℕ) → Some place ≡ position (λ other. same_name other name) names → true ≡ has_name names name
  name-known place is = known-place (λ other. same_name other name) names place is

  pub name-unknown : None ≡ position (λ other. same_name other name) names → false ≡ has_name names name
  name-unknown is = unknown-place (λ other. same_name other name) names is

pub ruleset known_laws = (name-known, name-unknown)

-- ---- headers that were looked up

module _ (headers : List Header) (name : Name) where
  pub place-number : first_place (λ (header : Header). header.name) headers name ≡ number_in (header_names headers) name
  place-number = by headers
    where
      by : (all : List Header) → first_place (λ (header : Header). header.name) all name ≡ number_in (header_names all) name
      by [] = refl
      by (header ∷ all) = λ i. cond (not (same_name header.name.name name)) (1 + by all i) 0

  pub header-at : slice_get headers (first_place (λ (header : Header). header.name) headers name) ≡ header_named headers name
  header-at = sym (find_at (λ (header : Header). same_name header.name.name name) headers)

numbered-at : (before headers after : List Header) (others place : ℕ) (header : Header) → length before ≡ others → Some header ≡ slice_get headers place
    → slice_get (before ++ (headers ++ after)) (others + place) ≡ Some header
numbered-at before headers after others place header counts is =
    let inside = slice_get_within headers place header (sym is) in
    (λ i. slice_get (before ++ (headers ++ after)) (sym counts i + place))
    ∙ slice_get-get_or (before ++ (headers ++ after)) (length before + place) header (omega (arith, inside, length-append before (headers ++ after), length-append headers after))
    ∙ ap Some (get_or-append-add before (headers ++ after) place header ∙ get_or_append_left headers after header place inside ∙ get_or_from_slice_get headers place header header (sym is))

pub numbered-from : (headers : List Header) (others place : ℕ) (header : Header) → Some header ≡ slice_get headers place
    → (before after : List Header) → length before ≡ others → slice_get (before ++ (headers ++ after)) (others + place) ≡ Some header
numbered-from headers others place header is before after counts = numbered-at before headers after others place header counts is

pub ruleset header_laws = (place-number, header-at, numbered-from)

-- ---- objects and preferences

pub object-declared : (T : Task) (name : Name) → has_name (object_names T) name ≡ is_declared (declared_objects T) name
object-declared T name = has-once (object_words T) name ∙ list_any-map (λ other. same_name other name) (λ (declared : Typed). declared.name.name) (declared_objects T)

pub preference-declared : (T : Task) (name : Name) → has_name (ordered_names T) name ≡ has_name (preference_names T) name
unfolding ordered_names preference_names
preference-declared T name = has-once (in_text_order (named_in_domain T.domain) ++ in_text_order (named_in_problem T.problem)) name ∙ ordered-preferences T name

pub ruleset declared_laws = (object-declared, preference-declared)

pub ruleset table_laws = (has-adds, adds-append, adds-kind)
