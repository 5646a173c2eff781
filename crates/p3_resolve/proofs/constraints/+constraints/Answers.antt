use Rattle.std.proofs.Common.{◌∙◌, ap, take}
use Rattle.p3_task.specs.Uses.{constraint_uses}
use Rattle.p3_numbers.specs.Constraints.{constraint_of}
use Rattle.p3_resolve.specs.NumbersOf.{numbers_of}
use Rattle.p3_resolve.specs.Walk.{Walked, uses_of_each}
use Rattle.p3_resolve.proofs.FormLemmas.{tree-more, words-kept}
use Rattle.p3_resolve.proofs.WalkLemmas.{map-more}
use Rattle.p3_resolve.proofs.constraints.+constraints.Goals as goal

pub numbered_constraints-loop-part-preserved : goal.numbered_constraints-loop-part-preserved
numbered_constraints-loop-part-preserved t c =
    let T = c.args.tables.now.task.now in
    let N = numbers_of c.args.tables.now in
    let walk = c.args.walk.now in
    record {
      walk = tree-more constraint_uses T walk c.loop-part.walk c.numbered_constraint.new.walk c.args.parts.now c.loop-part.part-index c.part-item.result
          c.loop-part-test.true c.part-item.is c.loop-part.invariant.walk c.in_ok-numbered_constraint.ensures.walk;
      made = map-more (λ part. constraint_of N part walk.words) c.loop-part.made c.push.new.self c.args.parts.now c.loop-part.part-index c.part-item.result c.in_ok-numbered_constraint.field-0
          c.loop-part-test.true c.part-item.is c.loop-part.invariant.made
          (c.in_ok-numbered_constraint.ensures.made
          ∙ ap (constraint_of N c.part-item.result) (ap (λ (other : Walked). other.words) c.loop-part.invariant.walk ∙ words-kept T (uses_of_each constraint_uses (take c.loop-part.part-index c.args.parts.now)) walk))
          c.in_ok-push.ensures.ok;
    }
