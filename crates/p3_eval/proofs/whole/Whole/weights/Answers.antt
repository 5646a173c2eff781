use Rattle.p3_eval.proofs.WholeRuns.{whole_is_ready}
use Rattle.p3_eval.proofs.whole.Whole.weights.Goals as goal

pub returns-clause-ready : goal.returns-clause-ready
returns-clause-ready c = whole_is_ready c.args.self.now
