use Rattle.p3_expansion.proofs.TaskLemmas.{makes-soft}
use Rattle.p3_expansion.proofs.task.soft_constraints.Goals as goal

pub returns : goal.returns
returns c =
    makes-soft c.args.task.now c.args.statics.now c.args.work.now c.push_instances.new.work c.push_instances-2.new.work c.push_goal_instances.new.work c.new-made.result c.push_instances.new.made c.push_instances-2.new.made c.push_goal_instances.new.made
    c.new-made.ensures c.in_ok-push_instances.ensures c.in_ok-push_instances-2.ensures c.in_ok-push_goal_instances.ensures
