use Rattle.p3_task.specs.PreferenceNames.{named_in_goal}
use Rattle.p3_resolve.specs.Listed.{goal_lists}
use Rattle.p3_resolve.proofs.GatherLemmas.{named-more}
use Rattle.p3_resolve.proofs.gather.Gathered.+goals.Goals as goal

pub goals-loop-part-preserved : goal.goals-loop-part-preserved
goals-loop-part-preserved t c =
    named-more goal_lists named_in_goal c.args.self.now c.loop-part.self c.goal.new.self c.args.parts.now c.loop-part.part-index c.part-item.result
    c.loop-part-test.true c.part-item.is c.loop-part.invariant c.in_ok-goal.ensures
