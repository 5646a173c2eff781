use Rattle.std.proofs.Common.{◌≡◌, ◌<◌, ◌≤◌, ℕ, length, take, get_or}
use Rattle.p3_compile.specs.Updated.{HasUpdates}
use Rattle.p3_compile.proofs.changes.push_updates.Given as goal

-- the monitors before the next one have their changes, and the places passed are among theirs
abbrev pub invariant-loop-place : goal.invariant-loop-place
invariant-loop-place l = record {
  has : HasUpdates l.fn.regressed.effects (take l.next l.monitors) l.fn.all.items l.all.items;
  bound : l.next ≤ length l.monitors;
  passed : (index : ℕ) → index < l.place-index → get_or l.places index 0 < l.next;
  effects : l.regressed.effects ≡ l.fn.regressed.effects;
}
