-- The objects of each list of types, and what their numbers are to a task.
use Rattle.std.proofs.Common.{◌≡◌, ◌∙◌, ℕ, zero, suc, ◌+◌, ◌<◌, Bool, true, false, not, ◌&&◌, ◌||◌, cond, List, [], ◌∷◌, ◌++◌, map, length, take, get_or, Some, refl, sym, ap, subst, arith}
use Rattle.std.specs.Prelude.{filter, slice_index_or, All}
use Rattle.std.specs.List.{list_any, position_or_len}
use Rattle.std.specs.List.Sorted.{IsStrictlyIncreasing}
use Rattle.std.proofs.lemmas.List.Elements.{All-nil, All-cons}
use Rattle.std.proofs.lemmas.Option.{slice_get-get_or}
use Rattle.std.proofs.lemmas.Slice.Eq.{bytes_eq-Decides, slice_eq-Decides}
use denote.Ref.{Bor}
use Rattle.p3_hierarchy.specs.Objects.{object_names, name_at}
use Rattle.p3_resolve.proofs.RangeLemmas.{names_in-more}
use Rattle.p3_resolve.specs.Numbers.{names_in}
use Rattle.p3_resolve.specs.Ranges.{IsRange, HaveRanges, AreNumbers}
use Rattle.p3_numbers.specs.Places.{IsNumbering}
use Rattle.p3_numbers.specs.declared.numbers.Numbers.{Numbers}
use Rattle.p3_task.proofs.OnceLemmas.{each_once}
use Rattle.p3_task.specs.Names.{Name, same_name, same_names}
use Rattle.p3_task.specs.Types.{names_of, type_names, below, declared_objects, once_each, objects}
use Rattle.p3_task.specs.declared.task.Task.{Task}
use Rattle.p3_task.specs.declared.term.Ref.{Ref}

-- ---- types of the same names have the same objects

type_names-same : (first second : List Ref) → names_of first ≡ names_of second → type_names first ≡ type_names second
type_names-same [] [] same = refl
type_names-same [] (kind ∷ second) same = absurd (cc)
type_names-same (kind ∷ first) [] same = absurd (cc)
type_names-same (kind ∷ first) (other ∷ second) same = same

pub objects-same : (T : Task) (first second : List Ref) → names_of first ≡ names_of second → objects T first ≡ objects T second
unfolding objects
objects-same T first second same =
    ap (λ (highs : List Name). filter (λ object. list_any (λ declared. same_name declared.name.name object
    && list_any (λ low. list_any (λ high. below T low high) highs) (type_names declared.types)) (declared_objects T)) (once_each (object_words T))) (type_names-same first second same)
  where
    object_words : Task → List Name
    object_words T = map (λ declared. declared.name.name) (declared_objects T)

pub is-range : (T : Task) (types : List Ref) (range : List ℕ) → map (name_at (object_names T)) range ≡ objects T types → IsStrictlyIncreasing range
    → All (λ number. number < length (object_names T)) range → IsRange T (names_of types) range
is-range T types range named rising within = record {
  named = λ others same. named ∙ objects-same T types others (sym same);
  rising = rising;
  within = within;
}

-- ---- a list more

have-more : (T : Task) (types : List (List Name)) (ranges : List (List ℕ)) (names : List Name) (range : List ℕ) → HaveRanges T types ranges → IsRange T names range → HaveRanges T (types ++ names ∷ []) (ranges ++ range ∷ [])
have-more T [] [] names range have is = (is, tt)
have-more T [] (first ∷ ranges) names range have is = absurd have
have-more T (first ∷ types) [] names range have is = absurd have
have-more T (first ∷ types) (other ∷ ranges) names range have is = (have.0, have-more T types ranges names range have.1 is)

pub have-next : (T : Task) (now next : List (List ℕ)) (lists : List (Bor (List Ref))) (i : ℕ) (types : Bor (List Ref)) (range : List ℕ) → i < length lists → types ≡ get_or lists i types
    → HaveRanges T (names_in (take i lists)) now → IsRange T (names_of types.now) range → next ≡ now ++ range ∷ [] → HaveRanges T (names_in (take (i + 1) lists)) next
have-next T now next lists i types range within read have is pushed =
    subst (HaveRanges T (names_in (take (i + 1) lists))) (sym pushed) (subst (λ all. HaveRanges T all (now ++ range ∷ [])) (sym (names_in-more lists i types within read))
    (have-more T (names_in (take i lists)) now (names_of types.now) range have is))

-- ---- what they are to a task

module _ (T : Task) where
  range-named : (types : List (List Name)) (ranges : List (List ℕ)) → HaveRanges T types ranges → (wanted : List Ref) → list_any (λ other. same_names other (names_of wanted)) types ≡ true
      → map (name_at (object_names T)) (slice_index_or ranges (position_or_len (λ other. same_names other (names_of wanted)) types) []) ≡ objects T wanted
  range-named [] [] have wanted found = absurd (cc)
  range-named [] (range ∷ ranges) have wanted found = absurd have
  range-named (names ∷ types) [] have wanted found = absurd have
  range-named (names ∷ types) (range ∷ ranges) have wanted found = by (same_names names (names_of wanted)) refl found (range-named types ranges have.1 wanted)
    where
      place : ℕ
      place = position_or_len (λ other. same_names other (names_of wanted)) types

      by : (same : Bool) → same_names names (names_of wanted) ≡ same → (same || list_any (λ other. same_names other (names_of wanted)) types) ≡ true
          → (list_any (λ other. same_names other (names_of wanted)) types ≡ true → map (name_at (object_names T)) (slice_index_or ranges place []) ≡ objects T wanted)
          → map (name_at (object_names T)) (slice_index_or (range ∷ ranges) (cond (not same) (1 + place) 0) []) ≡ objects T wanted
      by true is found later = have.0.named wanted (sym ((slice_eq-Decides bytes_eq-Decides names (names_of wanted) (same_names names (names_of wanted)) refl).0 is))
      by false is found later =
          let step : 1 + place ≡ suc place = omega arith in
          (λ i. map (name_at (object_names T)) (slice_index_or (range ∷ ranges) (step i) [])) ∙ later found

  range-within : (types : List (List Name)) (ranges : List (List ℕ)) → HaveRanges T types ranges → (k : ℕ) → All (λ number. number < length (object_names T)) (slice_index_or ranges k [])
  range-within [] [] have k = All-nil _
  range-within [] (range ∷ ranges) have k = absurd have
  range-within (names ∷ types) [] have k = absurd have
  range-within (names ∷ types) (range ∷ ranges) have zero = have.0.within
  range-within (names ∷ types) (range ∷ ranges) have (suc k) = range-within types ranges have.1 k

  ranges-rise : (types : List (List Name)) (ranges : List (List ℕ)) → HaveRanges T types ranges → All IsStrictlyIncreasing ranges
  ranges-rise [] [] have = All-nil _
  ranges-rise [] (range ∷ ranges) have = absurd have
  ranges-rise (names ∷ types) [] have = absurd have
  ranges-rise (names ∷ types) (range ∷ ranges) have = All-cons IsStrictlyIncreasing range ranges have.0.rising (ranges-rise types ranges have.1)

  names-apart : (i j : ℕ) → i < length (object_names T) → j < length (object_names T) → name_at (object_names T) i ≡ name_at (object_names T) j → i ≡ j
  names-apart i j low high same =
      each_once (map (λ declared. declared.name.name) (declared_objects T)) i j (name_at (object_names T) j)
      (slice_get-get_or (object_names T) i [] low ∙ ap Some same) (slice_get-get_or (object_names T) j [] high)

  pub numbering-from : (N : Numbers) → AreNumbers T N → IsNumbering T N
  numbering-from N are =
      let objects_are = are.names.objects in
      record {
        distinct = subst (λ (all : List Name). (i j : ℕ) → i < length all → j < length all → name_at all i ≡ name_at all j → i ≡ j) (sym objects_are) names-apart;
        named = λ types known. ap (λ (all : List Name). map (name_at all) (slice_index_or N.ranges (position_or_len (λ other. same_names other (names_of types)) N.types) [])) objects_are
            ∙ range-named N.types N.ranges are.ranges types known;
        within = λ range. subst (λ (all : List Name). All (λ number. number < length all) (slice_index_or N.ranges range [])) (sym objects_are) (range-within N.types N.ranges are.ranges range);
      }

  pub numbers-rise : (N : Numbers) → AreNumbers T N → All IsStrictlyIncreasing N.ranges
  numbers-rise N are = ranges-rise N.types N.ranges are.ranges
