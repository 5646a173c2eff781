use Rattle.p3_writer.proofs.UnconditionalLaws.{task_unconditional}
use Rattle.p3_writer.proofs.laws.unconditional_targets_are_unconditional_tasks.Goals as goal

pub returns : goal.returns
returns c = task_unconditional
