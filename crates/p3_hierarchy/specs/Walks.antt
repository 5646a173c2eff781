-- Types in the order of a walk down, and which places are below one of them.
use Rattle.std.specs.Prelude.{◌≡◌, ℕ, ◌<◌, ◌≤◌, ◌⊎◌, List, [], length, slice_index_or, All, Contains}
use Rattle.std.specs.List.{position_or_len}
use Rattle.p3_task.specs.Names.{Name, same_name}
use Rattle.p3_task.specs.Laws.{Chain}

abbrev pub kind_at : List Name → ℕ → Name
kind_at names place = slice_index_or names place []

-- the place of a type, which is their number where it has none
abbrev pub place_of : List Name → Name → ℕ
place_of names kind = position_or_len (λ other. same_name other kind) names

-- the greatest number, which is no place
abbrev pub no_place : ℕ
no_place = 18446744073709551615

-- the type stands at the place
pub record IsAt (names : List Name) (place : ℕ) (kind : Name) : Type 0 where
  pub within : place < length names
  pub is : kind_at names place ≡ kind

-- the type is directly below the one at the place, if that is one
pub record IsNext (pairs : List (Name × Name)) (names : List Name) (kind : Name) (from : ℕ) : Type 0 where
  pub within : from < no_place → from < length names
  pub led : from < no_place → Contains pairs (kind, kind_at names from)

-- each type that an earlier one led to is directly below it
pub record IsWalked (pairs : List (Name × Name)) (names : List Name) (from : List ℕ) : Type 0 where
  pub long : length from ≡ length names
  pub led : (place : ℕ) → place < length names → slice_index_or from place 0 < place → Contains pairs (kind_at names place, kind_at names (slice_index_or from place 0))

-- ---- what is directly below the type at a place: where the first and the last of it stand

pub record IsOwn (pairs : List (Name × Name)) (names : List Name) (place : ℕ) (lows : List Name) (least most : ℕ) : Type 0 where
  pub least_within : least ≤ place
  pub least_chain : Chain pairs (kind_at names least) (kind_at names place)
  pub bound : All (λ low. (least ≤ place_of names low) × (place_of names low ≤ most)) lows

-- ---- what a walk reached from the type at a place, up to another place

pub record IsReached (pairs : List (Name × Name)) (names : List Name) (place end least most : ℕ) : Type 0 where
  pub after : place < end
  pub within : end ≤ length names
  pub least_within : least ≤ place
  -- what was reached is below the type
  pub chains : (k : ℕ) → place ≤ k → k < end → Chain pairs (kind_at names k) (kind_at names place)
  pub least_chain : Chain pairs (kind_at names least) (kind_at names place)
  -- what is directly below it stands from the one place to the other
  pub least_bound : (k : ℕ) (low : Name) → place ≤ k → k < end → Contains pairs (low, kind_at names k) → least ≤ place_of names low
  pub most_bound : (k : ℕ) (low : Name) → place ≤ k → k < end → Contains pairs (low, kind_at names k) → place_of names low ≤ most

-- ---- the types below others as places in a row

-- the type at the place has exactly these places below it
pub record IsSpan (pairs : List (Name × Name)) (names : List Name) (place first end : ℕ) : Type 0 where
  pub within : end ≤ length names
  pub inside : (high low : Name) → place_of names high ≡ place → Chain pairs low high → (first ≤ place_of names low) × (place_of names low < end)
  pub chains : (high low : Name) → place_of names high ≡ place → first ≤ place_of names low → place_of names low < end → Chain pairs low high

-- a type no later than the place that is below the one at it
pub record IsTop (pairs : List (Name × Name)) (names : List Name) (place top : ℕ) : Type 0 where
  pub before : top ≤ place
  pub chain : Chain pairs (kind_at names top) (kind_at names place)

-- ---- of two numbers

pub record IsLesser (first second lesser : ℕ) : Type 0 where
  pub below_first : lesser ≤ first
  pub below_second : lesser ≤ second
  pub is : (lesser ≡ first) ⊎ (lesser ≡ second)

pub record IsGreater (first second greater : ℕ) : Type 0 where
  pub above_first : first ≤ greater
  pub above_second : second ≤ greater
