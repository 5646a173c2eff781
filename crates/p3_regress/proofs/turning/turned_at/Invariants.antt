use Rattle.std.proofs.Common.{◌≡◌, ◌<◌, ◌≤◌, ℕ, length, take, get_or}
use Rattle.p3_regress.specs.Sorted.{lent}
use Rattle.p3_regress.specs.Turned.{turned_parts}
use Rattle.p3_regress.proofs.turning.turned_at.Given as goal

-- the parts before the next one that may turn stand there, and the places passed are among theirs
abbrev pub invariant-loop-place : goal.invariant-loop-place
invariant-loop-place l = record {
  are : l.kept.items ≡ turned_parts (lent l.changes) l.up (take l.next l.parts);
  bound : l.next ≤ length l.parts;
  passed : (index : ℕ) → index < l.place-index → get_or l.places index 0 < length l.parts → get_or l.places index 0 < l.next;
}
