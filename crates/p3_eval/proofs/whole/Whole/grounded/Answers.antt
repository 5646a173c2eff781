use Rattle.p3_eval.proofs.WholeRuns.{belong_together, whole_leaves_out}
use Rattle.p3_eval.proofs.whole.Whole.grounded.Goals as goal

pub invariant_of-result : goal.invariant_of-result
invariant_of-result c = let whole = c.args.self.now in record { standing = (belong_together whole).stands; weighing = whole.weighing; accepted = whole.accepted }

pub returns-clause-left_out : goal.returns-clause-left_out
returns-clause-left_out c = whole_leaves_out c.args.self.now
