use Rattle.p3_task.specs.PreferenceNames.{named_in_constraint}
use Rattle.p3_resolve.specs.Listed.{constraint_lists}
use Rattle.p3_resolve.proofs.GatherLemmas.{named-more}
use Rattle.p3_resolve.proofs.gather.Gathered.+constraints.Goals as goal

pub constraints-loop-part-preserved : goal.constraints-loop-part-preserved
constraints-loop-part-preserved t c =
    named-more constraint_lists named_in_constraint c.args.self.now c.loop-part.self c.constraint.new.self c.args.parts.now c.loop-part.part-index c.part-item.result
    c.loop-part-test.true c.part-item.is c.loop-part.invariant c.in_ok-constraint.ensures
