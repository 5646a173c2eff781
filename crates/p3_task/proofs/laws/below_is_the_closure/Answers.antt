use Rattle.p3_task.proofs.BelowLemmas.{below_is_the_closure}
use Rattle.p3_task.proofs.laws.below_is_the_closure.Goals as goal

pub returns : goal.returns
returns c = below_is_the_closure
