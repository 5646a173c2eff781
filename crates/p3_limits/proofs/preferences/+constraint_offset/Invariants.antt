use Rattle.std.proofs.Common.{◌≡◌, ◌≤◌, drop}
use Rattle.std.specs.Prelude.{flat_map, slice_get}
use Rattle.p3_limits.specs.Preferences.{constraint_offsets}
use Rattle.p3_limits.proofs.preferences.+constraint_offset.Given as goal

-- the place in the parts that are left, no greater than before
abbrev pub invariant-constraints_offset-loop-part : goal.invariant-constraints_offset-loop-part
invariant-constraints_offset-loop-part l =
    (slice_get (flat_map (constraint_offsets l.numbers) (drop l.part-index l.parts)) l.left ≡ slice_get (flat_map (constraint_offsets l.numbers) l.parts) l.place) × (l.left ≤ l.place)
