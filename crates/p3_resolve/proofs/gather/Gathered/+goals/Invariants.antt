use Rattle.std.proofs.Common.{◌≡◌, take}
use Rattle.std.specs.Prelude.{flat_map}
use Rattle.p3_task.specs.PreferenceNames.{named_in_goal}
use Rattle.p3_resolve.specs.Listed.{more, goal_lists}
use Rattle.p3_resolve.proofs.gather.Gathered.+goals.Given as goal

abbrev pub invariant-goals-loop-part : goal.invariant-goals-loop-part
invariant-goals-loop-part l = l.self ≡ more (flat_map goal_lists (take l.part-index l.parts)) (flat_map named_in_goal (take l.part-index l.parts)) l.fn.self
