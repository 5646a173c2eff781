use Rattle.p3_expansion.proofs.InstanceLemmas.{pushes-at-end}
use Rattle.p3_expansion.proofs.instance.push_goal_instances.Goals as goal

pub returns : goal.returns
returns c =
    pushes-at-end c.args.numbers.now c.args.statics.now c.args.slots.now c.args.goal.now c.args.work.now c.push_preferences.new.work c.new-preferences.result c.push_preferences.new.made c.args.made.now c.push_at_end.new.made
    c.new-preferences.ensures c.in_ok-push_preferences.ensures c.in_ok-push_at_end.ensures
