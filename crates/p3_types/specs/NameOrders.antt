-- Places of names, in the order of the names.
use Rattle.std.specs.Prelude.{◌≡◌, ℕ, ◌<◌, ◌≤◌, ◌==◌, true, List, map, length, slice_index_or}
use Rattle.std.specs.List.{All, Contains, list_any}
use Rattle.std.specs.List.Sorted.{IsSortedBy}
use Rattle.std.specs.Ordering.{is_lt, nat_cmp}
use Rattle.std.specs.declared.cmp.Ordering.{Ordering}
use Rattle.std.specs.declared.cmp.Ordering.TheVariants.{Less, Greater}
use Rattle.std.specs.Cmp.Lexicographic.{slice_cmp}
use denote.Ref.{Bor}
use Rattle.p3_task.specs.Names.{Name}
use Rattle.p3_task.specs.declared.task.Action.{Action}
use Rattle.p3_task.specs.declared.task.Task.{Task}
use Rattle.p3_numbers.specs.Slots.{name_at}

-- how two words stand to one another, by their bytes
abbrev pub compare : Name → Name → Ordering
compare first second = slice_cmp nat_cmp first second

abbrev pub action_names : Task → List Name
action_names T = map (λ (action : Action). action.name.name) T.domain.actions

-- each place of a name once or more, the names rising
pub record IsNameOrder (names : List Name) (order : List ℕ) : Type 0 where
  pub within : All (λ place. place < length names) order
  pub rising : IsSortedBy (λ first second. is_lt (compare (name_at names first) (name_at names second))) order
  pub whole : (place : ℕ) → place < length names → list_any (λ other. other == place) order ≡ true

-- names with their places, those of the first places among them
pub record ArePlaced (names : List Name) (count : ℕ) (pairs : List (Bor Name × ℕ)) : Type 0 where
  pub named : All (λ (pair : Bor Name × ℕ). pair.0.now ≡ name_at names pair.1) pairs
  pub within : All (λ (pair : Bor Name × ℕ). pair.1 < length names) pairs
  pub whole : (place : ℕ) → place < count → Contains (map (λ (pair : Bor Name × ℕ). pair.1) pairs) place

-- what is before the first of two places in the order is below the word, and what is from the second on is above it
pub record IsBetween (names : List Name) (order : List ℕ) (word : Name) (low high : ℕ) : Type 0 where
  pub bound : high ≤ length order
  pub before : (k : ℕ) (d : ℕ) → k < low → compare (name_at names (slice_index_or order k d)) word ≡ Less
  pub behind : (k : ℕ) (d : ℕ) → high ≤ k → k < length order → compare (name_at names (slice_index_or order k d)) word ≡ Greater
