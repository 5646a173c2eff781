use Rattle.std.proofs.Common.{◌-◌, length}
use Rattle.std.specs.Prelude.{filter_map}
use Rattle.p3_task.specs.Types.{pair_of}
use Rattle.p3_hierarchy.specs.Walks.{IsReached}
use Rattle.p3_hierarchy.proofs.reaches.reach_of.Given as goal

abbrev pub invariant-loop-reach : goal.invariant-loop-reach
invariant-loop-reach l = IsReached (filter_map pair_of l.filed.kinds.now) l.walk.names l.place l.reach.end l.reach.least l.reach.most

abbrev pub decreases-loop-reach : goal.decreases-loop-reach
decreases-loop-reach l = length l.walk.names - l.reach.end
