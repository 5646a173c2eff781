use Rattle.p3_task.proofs.LineLaws.{one_step_plan}
use Rattle.p3_task.proofs.laws.one_step_is_the_plan.Goals as goal

pub returns : goal.returns
returns c = one_step_plan
