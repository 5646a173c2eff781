use Rattle.std.proofs.Common.{◌≡◌, map, take}
use Rattle.p3_task.specs.Uses.{goal_uses}
use Rattle.p3_numbers.specs.Goals.{goal_of}
use Rattle.p3_resolve.specs.NumbersOf.{numbers_of}
use Rattle.p3_resolve.specs.Walk.{with_tree, uses_of_each}
use Rattle.p3_resolve.proofs.goals.+goals.Given as goal

abbrev pub invariant-numbered_goals-loop-part : goal.invariant-numbered_goals-loop-part
invariant-numbered_goals-loop-part l = record {
  walk : l.walk ≡ with_tree l.tables.task.now (uses_of_each goal_uses (take l.part-index l.parts)) l.fn.walk;
  made : l.made ≡ map (λ part. goal_of (numbers_of l.tables) part l.fn.walk.words) (take l.part-index l.parts);
}
