use Rattle.p3_task.proofs.TextLemmas.{one_task_at_most}
use Rattle.p3_task.proofs.laws.one_task_at_most.Goals as goal

pub returns : goal.returns
returns c = one_task_at_most
