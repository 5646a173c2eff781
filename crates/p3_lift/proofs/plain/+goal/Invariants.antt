use Rattle.std.proofs.Common.{◌≡◌, drop}
use Rattle.std.specs.List.{list_any}
use Rattle.p3_task.specs.Lifting.{prefers}
use Rattle.p3_lift.proofs.plain.+goal.Given as given

-- those that are left decide
abbrev pub invariant-some_part_prefers-loop-goal : given.invariant-some_part_prefers-loop-goal
invariant-some_part_prefers-loop-goal l = list_any prefers (drop l.goal-index l.goals) ≡ list_any prefers l.goals
