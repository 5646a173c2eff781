use Rattle.std.proofs.Common.{◌≡◌, ◌++◌, length}
use Rattle.std.specs.Vec.Iter.{into_iter_items, into_iter_len}
use Rattle.p3_formula.specs.Forms.{State}
use Rattle.p3_reach.specs.Closed.{steps_that_may}
use Rattle.p3_ground.specs.Pruned.{steps_over}
use Rattle.p3_ground.proofs.task.sifted_steps.Given as goal

-- the steps passed are kept where they are marked, and the marks of those that are left are left
abbrev pub invariant-loop-step : goal.invariant-loop-step
invariant-loop-step l = record {
  whole : l.yielded ++ into_iter_items l.step-iterator ≡ into_iter_items l.initial.step-iterator;
  counted : into_iter_len l.step-iterator ≡ length (into_iter_items l.step-iterator);
  marked : (set : State) → l.fn.marks ≡ steps_that_may set (into_iter_items l.initial.step-iterator)
      → (l.kept ≡ steps_over set l.yielded) × (l.left ≡ steps_that_may set (into_iter_items l.step-iterator));
}
