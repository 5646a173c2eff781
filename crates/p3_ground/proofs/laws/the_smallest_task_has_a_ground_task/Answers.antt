use Rattle.p3_ground.proofs.Worked.{smallest_grounds}
use Rattle.p3_ground.proofs.laws.the_smallest_task_has_a_ground_task.Goals as goal

pub returns : goal.returns
returns c = smallest_grounds
