use Rattle.p3_task.proofs.StaticLaws.{settled-reached}
use Rattle.p3_task.proofs.groundwork.static_atoms_stay.Goals as goal

pub returns : goal.returns
returns c = settled-reached
