use Rattle.p3_eval.proofs.WholeRuns.{belong_together, whole_leaves_out}
use Rattle.p3_eval.proofs.whole.Whole.begin.Goals as goal

pub open-requires : goal.open-requires
open-requires c = record { task = c.args.self.now.checked.task; together = belong_together c.args.self.now }

pub returns-clause-task : goal.returns-clause-task
returns-clause-task c = belong_together c.args.self.now

pub returns-clause-left_out : goal.returns-clause-left_out
returns-clause-left_out c = whole_leaves_out c.args.self.now
