-- What a walk reached from each type, in lists.
use Rattle.std.specs.Prelude.{◌≡◌, ℕ, ◌<◌, ◌≤◌, List, length, slice_index_or}
use Rattle.p3_task.specs.Names.{Name}
use Rattle.p3_hierarchy.specs.Walks.{IsReached, IsTop}
use Rattle.p3_hierarchy.specs.declared.reaches.Reach.{Reach}

-- what was reached from the type at each place from this one on
pub record AreReached (pairs : List (Name × Name)) (names : List Name) (start : ℕ) (reaches : List Reach) : Type 0 where
  pub long : length reaches ≡ length names
  pub reached : (place : ℕ) (d : Reach) → start ≤ place → place < length names
      → IsReached pairs names place (slice_index_or reaches place d).end (slice_index_or reaches place d).least (slice_index_or reaches place d).most

pub record AreTops (pairs : List (Name × Name)) (names : List Name) (tops : List ℕ) : Type 0 where
  pub each : (place : ℕ) → place < length tops → IsTop pairs names place (slice_index_or tops place 0)
