use Rattle.std.specs.Prelude.{filter_map}
use Rattle.std.proofs.Common.{◌≤◌, length}
use Rattle.p3_task.specs.Types.{pair_of}
use Rattle.p3_hierarchy.specs.Reaches.{AreReached}
use Rattle.p3_hierarchy.proofs.reaches.reaches_of.Given as goal

abbrev pub invariant-loop-place : goal.invariant-loop-place
invariant-loop-place l = record {
  within : l.place ≤ length l.walk.names;
  known : AreReached (filter_map pair_of l.filed.kinds.now) l.walk.names l.place l.reaches.items;
}

abbrev pub decreases-loop-place : goal.decreases-loop-place
decreases-loop-place l = l.place
