use Rattle.p3_task.specs.PreferenceNames.{named_in_goal}
use Rattle.p3_resolve.specs.Listed.{action_lists}
use Rattle.p3_resolve.proofs.GatherLemmas.{named-more}
use Rattle.p3_resolve.proofs.gather.Gathered.actions.Goals as goal

pub loop-action-preserved : goal.loop-action-preserved
loop-action-preserved c =
    named-more action_lists (λ action. named_in_goal action.pre.body) c.args.self.now c.loop-action.self c.action.new.self c.args.actions.now c.loop-action.action-index c.action-item.result
    c.loop-action-test.true c.action-item.is c.loop-action.invariant c.in_ok-action.ensures
