use Rattle.std.proofs.Common.{◌≡◌, map, take}
use Rattle.p3_task.specs.Uses.{constraint_uses}
use Rattle.p3_numbers.specs.Constraints.{constraint_of}
use Rattle.p3_resolve.specs.NumbersOf.{numbers_of}
use Rattle.p3_resolve.specs.Walk.{with_tree, uses_of_each}
use Rattle.p3_resolve.proofs.constraints.+constraints.Given as goal

abbrev pub invariant-numbered_constraints-loop-part : goal.invariant-numbered_constraints-loop-part
invariant-numbered_constraints-loop-part l = record {
  walk : l.walk ≡ with_tree l.tables.task.now (uses_of_each constraint_uses (take l.part-index l.parts)) l.fn.walk;
  made : l.made ≡ map (λ part. constraint_of (numbers_of l.tables) part l.fn.walk.words) (take l.part-index l.parts);
}
