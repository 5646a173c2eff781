-- The lists of types of parameters, by number.
use Rattle.std.proofs.Common.{◌≡◌, ◌∙◌, ℕ, zero, suc, ◌+◌, ◌<◌, Bool, true, false, not, cond, ◌||◌, if◌then◌else◌, List, [], ◌∷◌, ◌++◌, map, length, take, get_or, Some, refl, sym, ap, append_assoc, arith}
use Rattle.std.specs.Prelude.{◌==◌, slice_get}
use Rattle.std.specs.List.{list_any, position_or_len}
use Rattle.std.proofs.lemmas.List.{append-nil, map-append, length-map, take_more}
use Rattle.std.proofs.Math.Dec.{eqb-suc-suc, eqb-zero-suc}
use denote.Ref.{Bor}
use Rattle.p3_task.specs.Names.{Name, same_names}
use Rattle.p3_task.specs.Types.{names_of}
use Rattle.p3_task.specs.declared.term.Ref.{Ref}
use Rattle.p3_task.specs.declared.term.Typed.{Typed}
use Rattle.p3_task.specs.declared.task.Header.{Header}
use Rattle.p3_task.proofs.StateLemmas.{same_names-Decides}
use Rattle.p3_numbers.specs.Names.{with_list}
use Rattle.p3_hierarchy.proofs.ObjectLemmas.{get-append, get-last}
use Rattle.p3_resolve.specs.Numbers.{Keeps, AreNumbers, AreAllNumbers, NumbersMore, names_at, names_in}

-- ---- a list more

module _ (names : List Name) where
  abbrev place_in : List (List Name) → ℕ
  place_in lists = position_or_len (λ other. same_names other names) lists

  abbrev has_list : List (List Name) → Bool
  has_list lists = list_any (λ other. same_names other names) lists

  one-more : (n : ℕ) → 1 + n ≡ suc n
  one-more n = omega arith

  found-at : (lists : List (List Name)) → has_list lists ≡ true → slice_get lists (place_in lists) ≡ Some names
  found-at [] has = absurd (cc)
  found-at (first ∷ lists) has = by (same_names first names) refl has (found-at lists)
    where
      by : (here : Bool) → same_names first names ≡ here → (here || has_list lists) ≡ true → (has_list lists ≡ true → slice_get lists (place_in lists) ≡ Some names)
          → slice_get (first ∷ lists) (cond (not here) (1 + place_in lists) 0) ≡ Some names
      by true is has later = ap Some ((same_names-Decides first names).0 is)
      by false is has later = ap (slice_get (first ∷ lists)) (one-more (place_in lists)) ∙ later has

  not-listed : (lists : List (List Name)) → (place_in lists == length lists) ≡ not (has_list lists)
  not-listed [] = refl
  not-listed (first ∷ lists) = by (same_names first names) (not-listed lists)
    where
      by : (here : Bool) → (place_in lists == length lists) ≡ not (has_list lists)
          → (cond (not here) (1 + place_in lists) 0 == length (first ∷ lists)) ≡ not (here || has_list lists)
      by true rest = eqb-zero-suc (length lists)
      by false rest = ap (λ place. place == length (first ∷ lists)) (one-more (place_in lists)) ∙ eqb-suc-suc (place_in lists) (length lists) ∙ rest

  new-at : (lists : List (List Name)) → has_list lists ≡ false → place_in lists ≡ length lists
  new-at [] has = refl
  new-at (first ∷ lists) has = by (same_names first names) has (new-at lists)
    where
      by : (here : Bool) → (here || has_list lists) ≡ false → (has_list lists ≡ false → place_in lists ≡ length lists) → cond (not here) (1 + place_in lists) 0 ≡ length (first ∷ lists)
      by true has later = absurd (cc)
      by false has later = let further = later has in omega (arith, further)

  pub listed-same : (lists : List (List Name)) → with_list lists names ≡ (if place_in lists == length lists then lists ++ names ∷ [] else lists)
  listed-same lists = turned (has_list lists) ∙ (λ i. if sym (not-listed lists) i then lists ++ names ∷ [] else lists)
    where
      turned : (has : Bool) → (if has then lists else lists ++ names ∷ []) ≡ (if not has then lists ++ names ∷ [] else lists)
      turned true = refl
      turned false = refl

  pub list-placed : (lists : List (List Name)) → slice_get (with_list lists names) (place_in lists) ≡ Some names
  list-placed lists = by (has_list lists) refl
    where
      by : (has : Bool) → has_list lists ≡ has → slice_get (if has then lists else lists ++ names ∷ []) (place_in lists) ≡ Some names
      by true is = found-at lists is
      by false is = ap (slice_get (lists ++ names ∷ [])) (new-at lists is) ∙ get-last lists names

  pub lists-kept : (lists : List (List Name)) → Keeps lists (with_list lists names)
  lists-kept lists k other at = by (has_list lists)
    where
      by : (has : Bool) → slice_get (if has then lists else lists ++ names ∷ []) k ≡ Some other
      by true = at
      by false = get-append lists (names ∷ []) k other at

pub same-longer : (keys new : List (List Name)) (lists longer : List (Bor (List Ref))) (names : List Name) (number : ℕ) → keys ≡ names_in lists → new ≡ with_list keys names → number ≡ place_in names keys
    → names_in longer ≡ (if number == length lists then names_in lists ++ names ∷ [] else names_in lists) → new ≡ names_in longer
same-longer keys new lists longer names number same is placed added =
    is ∙ listed-same names keys ∙ (λ i. if sym placed i == (ap length same ∙ length-map lists (λ types. names_of types.now)) i then same i ++ names ∷ [] else same i) ∙ sym added

-- ---- numbers of parameters

pub numbers-kept : (old new : List (List Name)) (numbers : List ℕ) (parameters : List Typed) → Keeps old new → AreNumbers old numbers parameters → AreNumbers new numbers parameters
numbers-kept old new [] [] keeps told = refl
numbers-kept old new [] (parameter ∷ parameters) keeps told = absurd (cc)
numbers-kept old new (number ∷ numbers) [] keeps told = absurd (cc)
numbers-kept old new (number ∷ numbers) (parameter ∷ parameters) keeps told =
    λ i. keeps number (names_of parameter.types) (first told) i ∷ numbers-kept old new numbers parameters keeps (others told) i
  where
    first : slice_get old number ∷ map (slice_get old) numbers ≡ names_at parameter ∷ map names_at parameters → slice_get old number ≡ names_at parameter
    first same = cc

    others : slice_get old number ∷ map (slice_get old) numbers ≡ names_at parameter ∷ map names_at parameters → map (slice_get old) numbers ≡ map names_at parameters
    others same = cc

pub numbers-more : (old new : List (List Name)) (numbers longer : List ℕ) (parameters : List Typed) (at : ℕ) (parameter : Typed) (number : ℕ)
    → at < length parameters → parameter ≡ get_or parameters at parameter → Keeps old new → AreNumbers old numbers (take at parameters)
    → slice_get new number ≡ names_at parameter → longer ≡ numbers ++ number ∷ [] → AreNumbers new longer (take (at + 1) parameters)
numbers-more old new numbers longer parameters at parameter number within read keeps told is pushed =
    ap (map (slice_get new)) pushed ∙ map-append (slice_get new) numbers (number ∷ [])
    ∙ (λ i. numbers-kept old new numbers (take at parameters) keeps told i ++ is i ∷ [])
    ∙ sym (map-append names_at (take at parameters) (parameter ∷ []))
    ∙ ap (map names_at) (sym (take_more parameters at parameter within ∙ ap (λ one. take at parameters ++ one ∷ []) (sym read)))

-- ---- numbers of the parameters of headers

pub all-kept : (old new : List (List Name)) (numbers : List (List ℕ)) (headers : List Header) → Keeps old new → AreAllNumbers old numbers headers → AreAllNumbers new numbers headers
all-kept old new [] [] keeps told = refl
all-kept old new [] (header ∷ headers) keeps told = absurd (cc)
all-kept old new (number ∷ numbers) [] keeps told = absurd (cc)
all-kept old new (number ∷ numbers) (header ∷ headers) keeps told =
    λ i. numbers-kept old new number header.params keeps (first told) i ∷ all-kept old new numbers headers keeps (others told) i
  where
    first : map (slice_get old) number ∷ map (map (slice_get old)) numbers ≡ map names_at header.params ∷ map (λ (one : Header). map names_at one.params) headers → map (slice_get old) number ≡ map names_at header.params
    first same = cc

    others : map (slice_get old) number ∷ map (map (slice_get old)) numbers ≡ map names_at header.params ∷ map (λ (one : Header). map names_at one.params) headers
        → map (map (slice_get old)) numbers ≡ map (λ (one : Header). map names_at one.params) headers
    others same = cc

pub all-none : (lists : List (List Name)) (numbers : List (List ℕ)) → NumbersMore [] lists numbers lists numbers
all-none lists numbers headers told = told ∙ ap (map (λ (one : Header). map names_at one.params)) (sym (append-nil headers))

pub all-more : (first old new : List (List Name)) (start numbers longer : List (List ℕ)) (headers : List Header) (at : ℕ) (header : Header) (parameters : List ℕ)
    → at < length headers → header ≡ get_or headers at header → Keeps old new → NumbersMore (take at headers) first start old numbers
    → AreNumbers new parameters header.params → longer ≡ numbers ++ parameters ∷ [] → NumbersMore (take (at + 1) headers) first start new longer
all-more first old new start numbers longer headers at header parameters within read keeps before is pushed others told =
    ap (map (map (slice_get new))) pushed ∙ map-append (map (slice_get new)) numbers (parameters ∷ [])
    ∙ (λ i. all-kept old new numbers (others ++ take at headers) keeps (before others told) i ++ is i ∷ [])
    ∙ sym (map-append (λ (one : Header). map names_at one.params) (others ++ take at headers) (header ∷ []))
    ∙ ap (map (λ (one : Header). map names_at one.params)) (append_assoc others (take at headers) (header ∷ [])
    ∙ ap (λ more. others ++ more) (sym (take_more headers at header within ∙ ap (λ one. take at headers ++ one ∷ []) (sym read))))

-- those of two lists of headers, from none on
pub both-numbered : (first second : List Header) (start middle end lists : List (List Name)) (none some all : List (List ℕ)) → none ≡ []
    → NumbersMore first start none middle some → NumbersMore second middle some end all → lists ≡ end → AreAllNumbers lists all (first ++ second)
both-numbered first second start middle end lists none some all empty one other same =
    (λ i. map (map (slice_get (same i))) all) ∙ other first (one [] (ap (map (map (slice_get start))) empty))
