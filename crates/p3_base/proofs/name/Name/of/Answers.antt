use Rattle.p3_base.proofs.NameLemmas.{lowered-lowered}
use Rattle.p3_base.proofs.name.Name.of.Goals as goal

pub invariant_of-result : goal.invariant_of-result
invariant_of-result c = rw c.lower.ensures (lowered-lowered _)
