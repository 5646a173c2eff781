use Rattle.p3_expansion.proofs.TaskLemmas.{makes-hard}
use Rattle.p3_expansion.proofs.task.hard_constraints.Goals as goal

pub returns : goal.returns
returns c =
    makes-hard c.args.task.now c.args.statics.now c.args.work.now c.push_operators.new.work c.push_operators-2.new.work c.new-made.result c.push_operators.new.made c.push_operators-2.new.made c.new-made.ensures c.in_ok-push_operators.ensures c.in_ok-push_operators-2.ensures
