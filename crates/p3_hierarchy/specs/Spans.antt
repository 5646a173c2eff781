-- Types that stand together in a row.
use Rattle.std.specs.Prelude.{◌≡◌, ℕ, Bool, true, ◌&&◌, ◌||◌, ◌⊎◌, nat_lt, not, List, [], ◌∷◌, ◌++◌, take, slice_get, Option, Some, All, Contains}
use Rattle.std.specs.List.{list_any}
use Rattle.p3_task.specs.Names.{Name, has_name}
use Rattle.p3_task.specs.Laws.{Chain}
use Rattle.p3_numbers.specs.Names.{with_names}
use Rattle.p3_hierarchy.specs.Kinds.{IsLed, lows_under}
use Rattle.p3_hierarchy.specs.Walks.{IsSpan, place_of}
use Rattle.p3_hierarchy.specs.declared.span.Span.{Span}

abbrev pub is_in : ℕ → Span → Bool
is_in place span = not (nat_lt place span.first) && nat_lt place span.end

-- where the types below one stand together as it is noted of its place
pub record AreSpans (pairs : List (Name × Name)) (names : List Name) (spans : List (Option Span)) : Type 0 where
  pub each : (place : ℕ) (span : Span) → slice_get spans place ≡ Some (Some span) → IsSpan pairs names place span.first span.end

-- ---- a search that takes types that stand together at once

-- the type was found, or it is among those that stand together
abbrev pub is_found : List Name → List Name → List Span → Name → Bool
is_found names found spans kind = has_name found kind || list_any (is_in (place_of names kind)) spans

-- the types at the span's places are below one of those listed
pub record AreLed (pairs : List (Name × Name)) (names highs : List Name) (span : Span) : Type 0 where
  pub each : (low : Name) → is_in (place_of names low) span ≡ true → IsLed pairs highs low

-- the span has all types below this one
pub record HasAll (pairs : List (Name × Name)) (names : List Name) (high : Name) (span : Span) : Type 0 where
  pub each : (low : Name) → Chain pairs low high → is_in (place_of names low) span ≡ true

-- all below a type is in one of the spans
pub record IsSpanned (pairs : List (Name × Name)) (names : List Name) (spans : List Span) (high : Name) : Type 0 where
  pub span : Span
  pub listed : Contains spans span
  pub all : HasAll pairs names high span

-- the type's span was taken, or what is directly below it
pub record IsFollowed (pairs : List (Name × Name)) (names : List Name) (noted : List (Option Span)) (high : Name)
    (found : List Name) (spans : List Span) (new_found : List Name) (new_spans : List Span) : Type 0 where
  pub is : ((span : Span) × (slice_get noted (place_of names high) ≡ Some (Some span)) × (new_found ≡ found) × (new_spans ≡ spans ++ span ∷ []))
      ⊎ ((new_found ≡ with_names found (lows_under pairs high)) × (new_spans ≡ spans))

-- what is below the first ones was found
pub record IsSearched (pairs : List (Name × Name)) (names highs : List Name) (count : ℕ) (found : List Name) (spans : List Span) : Type 0 where
  pub led : All (IsLed pairs highs) found
  pub listed : All (Contains found) highs
  pub spans_led : All (AreLed pairs names highs) spans
  pub done : (low high : Name) → Contains pairs (low, high) → Contains (take count found) high → Contains found low ⊎ IsSpanned pairs names spans high

-- the types that pairs lead from were found, and no others
pub record IsDownFrom (pairs : List (Name × Name)) (names highs found : List Name) (spans : List Span) : Type 0 where
  pub led : (low : Name) → is_found names found spans low ≡ true → IsLed pairs highs low
  pub all : (low : Name) → IsLed pairs highs low → is_found names found spans low ≡ true
