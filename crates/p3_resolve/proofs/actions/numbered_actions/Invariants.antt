use Rattle.std.proofs.Common.{◌≡◌, map, take}
use Rattle.p3_numbers.specs.Tasks.{numbered_action}
use Rattle.p3_resolve.specs.NumbersOf.{numbers_of}
use Rattle.p3_resolve.specs.Walk.{with_tree, uses_of_action, uses_of_each}
use Rattle.p3_resolve.proofs.actions.numbered_actions.Given as goal

abbrev pub invariant-loop-action : goal.invariant-loop-action
invariant-loop-action l = record {
  walk : l.walk ≡ with_tree l.tables.task.now (uses_of_each uses_of_action (take l.action-index l.actions)) l.fn.walk;
  made : l.made ≡ map (numbered_action (numbers_of l.tables)) (take l.action-index l.actions);
}
