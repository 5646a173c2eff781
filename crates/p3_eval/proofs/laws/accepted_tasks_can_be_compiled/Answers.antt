use Rattle.p3_eval.proofs.ReadyLaws.{accepted_is_ready}
use Rattle.p3_eval.proofs.laws.accepted_tasks_can_be_compiled.Goals as goal

pub returns : goal.returns
returns c = accepted_is_ready
