use Rattle.p3_lift.proofs.FaithfulLaws.{no_mismatch}
use Rattle.p3_lift.proofs.laws.faithful_tasks_never_mismatch.Goals as goal

pub returns : goal.returns
returns c = no_mismatch
