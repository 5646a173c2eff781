use Rattle.std.proofs.Common.{◌≡◌, take}
use Rattle.p3_resolve.specs.Walk.{with_tree, uses_of_each, uses_of_num}
use Rattle.p3_resolve.proofs.metric.+nums.Given as goal

abbrev pub invariant-nums_noted-loop-part : goal.invariant-nums_noted-loop-part
invariant-nums_noted-loop-part l = l.walk ≡ with_tree l.tables.task.now (uses_of_each uses_of_num (take l.part-index l.parts)) l.fn.walk
