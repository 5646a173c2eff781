-- What is found at a place of a header.
use Rattle.std.proofs.Common.{◌≡◌, ◌∙◌, ℕ, zero, suc, List, [], ◌∷◌, map, Option, Some, None, refl, sym, ap, subst}
use Rattle.std.specs.Prelude.{slice_get, option_map, option_and_then, All}
use Rattle.std.specs.List.{list_all}
use Rattle.std.proofs.lemmas.Option.{slice_get-map}
use Rattle.std.proofs.lemmas.List.Elements.{All-head, All-tail}
use Rattle.p3_task.specs.Names.{Name}
use Rattle.p3_task.specs.Types.{declared_objects, is_below_some, is_object_of, names_of}
use Rattle.p3_task.specs.declared.term.Ref.{Ref}
use Rattle.p3_task.specs.declared.term.Typed.{Typed}
use Rattle.p3_task.specs.declared.task.Header.{Header}
use Rattle.p3_task.specs.declared.task.Task.{Task}
use Rattle.p3_task.proofs.OnceLemmas.{Some-injective}
use Rattle.p3_resolve.specs.ByNumber.{declared_as}
use Rattle.p3_resolve.specs.Fitting.{HasFitting, found_fits}
use Rattle.p3_resolve.specs.Numbers.{AreAllNumbers, names_at, number_at}
use Rattle.p3_resolve.proofs.FitLemmas.{object-fits, same-below, same-objects}

none-some : {A : Type 0} (x : A) → None ≡ Some x → ⊥
none-some x same = absurd (cc)

abbrev pub parameter_in : List Header → ℕ → ℕ → Option Typed
parameter_in headers header place = option_and_then (λ (one : Header). slice_get one.params place) (slice_get headers header)

module _ (lists : List (List Name)) (place : ℕ) where
  -- the number at a place leads to the names of the parameter there
  both-at : (numbers : Option (List ℕ)) (header : Option Header)
      → option_map (map (slice_get lists)) numbers ≡ option_map (λ (one : Header). map names_at one.params) header
      → option_map (slice_get lists) (option_and_then (λ (one : List ℕ). slice_get one place) numbers) ≡ option_map names_at (option_and_then (λ (one : Header). slice_get one.params place) header)
  both-at None None same = refl
  both-at None (Some header) same = absurd (none-some (map names_at header.params) same)
  both-at (Some numbers) None same = absurd (none-some (map (slice_get lists) numbers) (sym same))
  both-at (Some numbers) (Some header) same =
      sym (slice_get-map (slice_get lists) numbers place) ∙ ap (λ all. slice_get all place) (Some-injective _ _ same) ∙ slice_get-map names_at header.params place

  flat : (number : Option ℕ) (names : Option (List Name)) → option_map (slice_get lists) number ≡ Some names → option_and_then (slice_get lists) number ≡ names
  flat None names none = absurd (none-some names none)
  flat (Some number) names same = Some-injective _ _ same

  no-number : (number : Option ℕ) → option_map (slice_get lists) number ≡ None → number ≡ None
  no-number None none = refl
  no-number (Some number) none = absurd (none-some (slice_get lists number) (sym none))

module _ {A : Type 0} (types_of : A → List Ref) (fits : List A) (numbers : List (List ℕ)) (headers : List Header) (header place : ℕ) where
  abbrev names : A → List Name
  names fit = names_of (types_of fit)

  number-told : AreAllNumbers (map names fits) numbers headers
      → option_map (slice_get (map names fits)) (number_at numbers header place) ≡ option_map names_at (parameter_in headers header place)
  number-told told =
      both-at (map names fits) place (slice_get numbers header) (slice_get headers header)
      (sym (slice_get-map (map (slice_get (map names fits))) numbers header) ∙ ap (λ all. slice_get all header) told ∙ slice_get-map (λ (one : Header). map names_at one.params) headers header)

  fit-at : (parameter : Typed) → AreAllNumbers (map names fits) numbers headers → parameter_in headers header place ≡ Some parameter
      → option_map names (option_and_then (slice_get fits) (number_at numbers header place)) ≡ names_at parameter
  fit-at parameter told is =
      sym (mapped (number_at numbers header place))
      ∙ flat (map names fits) place (number_at numbers header place) (names_at parameter) (number-told told ∙ ap (option_map names_at) is)
    where
      mapped : (number : Option ℕ) → option_and_then (slice_get (map names fits)) number ≡ option_map names (option_and_then (slice_get fits) number)
      mapped None = refl
      mapped (Some number) = slice_get-map names fits number

  pub none-found : (P : Option Typed → Type 0) → AreAllNumbers (map names fits) numbers headers → None ≡ option_and_then (slice_get fits) (number_at numbers header place)
      → P None → P (parameter_in headers header place)
  none-found P told none holds = by (parameter_in headers header place) refl
    where
      by : (found : Option Typed) → parameter_in headers header place ≡ found → P found
      by None is = holds
      by (Some parameter) is = absurd (none-some (names_of parameter.types) (ap (option_map names) none ∙ fit-at parameter told is))

  pub one-found : (P : Option Typed → Type 0) (fit : A) → AreAllNumbers (map names fits) numbers headers → Some fit ≡ option_and_then (slice_get fits) (number_at numbers header place)
      → ((parameter : Typed) → names fit ≡ names_of parameter.types → P (Some parameter)) → P (parameter_in headers header place)
  one-found P fit told one holds = by (parameter_in headers header place) refl
    where
      by : (found : Option Typed) → parameter_in headers header place ≡ found → P found
      by None is =
          absurd (none-some fit (sym (ap (option_and_then (slice_get fits)) (no-number (map names fits) place (number_at numbers header place) (number-told told ∙ ap (option_map names_at) is))) ∙ sym one))
      by (Some parameter) is = holds parameter (Some-injective _ _ (ap (option_map names) one ∙ fit-at parameter told is))

all-at : {A : Type 0} (P : A → Type 0) (items : List A) (number : ℕ) (item : A) → All P items → Some item ≡ slice_get items number → P item
all-at P [] number item told at = absurd (none-some item (sym at))
all-at P (first ∷ items) zero item told at = subst P (sym (Some-injective _ _ at)) (All-head P first items told)
all-at P (first ∷ items) (suc number) item told at = all-at P items number item (All-tail P first items told) at

pub found-told : {A : Type 0} (P : A → Type 0) (items : List A) (number : Option ℕ) (item : A) → All P items → Some item ≡ option_and_then (slice_get items) number → P item
found-told P items None item told at = absurd (none-some item (sym at))
found-told P items (Some number) item told at = all-at P items number item told at

-- ---- what it tells

module _ (T other : Task) (same_task : other ≡ T) (types others : List Ref) (same : names_of types ≡ names_of others) where
  pub object-told : (table : List Name) (object : Name) (items : List Typed) → HasFitting other types table → items ≡ declared_as object (declared_objects T)
      → found_fits other types items table object ≡ is_object_of T others object
  object-told table object items told are =
      object-fits other types object table told items (are ∙ (λ i. declared_as object (declared_objects (sym same_task i))))
      ∙ (λ i. is_object_of (same_task i) types object) ∙ same-objects T types others object same

  pub variable-told : (lows : List Name) → list_all (is_below_some other types) lows ≡ list_all (is_below_some T others) lows
  variable-told lows = (λ i. list_all (is_below_some (same_task i) types) lows) ∙ (λ i. list_all (same-below T types others same i) lows)
