use Rattle.p3_eval.proofs.WholeRuns.{grounded_together}
use Rattle.p3_eval.proofs.grounded.Grounded.begin.Goals as goal

pub open-requires : goal.open-requires
open-requires c = record { task = c.args.self.now.checked.now.task; together = grounded_together c.args.self.now }

pub returns-clause-task : goal.returns-clause-task
returns-clause-task c = grounded_together c.args.self.now
