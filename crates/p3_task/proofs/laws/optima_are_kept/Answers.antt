use Rattle.p3_task.proofs.OptimaLemmas.{optima_are_kept}
use Rattle.p3_task.proofs.laws.optima_are_kept.Goals as goal

pub returns : goal.returns
returns c = optima_are_kept
