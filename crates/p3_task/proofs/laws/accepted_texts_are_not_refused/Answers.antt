use Rattle.p3_task.proofs.RefusalLaws.{nothing_is_refused}
use Rattle.p3_task.proofs.laws.accepted_texts_are_not_refused.Goals as goal

pub returns : goal.returns
returns c = nothing_is_refused
