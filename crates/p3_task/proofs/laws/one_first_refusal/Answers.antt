use Rattle.p3_task.proofs.RefusalLaws.{one_first_refusal}
use Rattle.p3_task.proofs.laws.one_first_refusal.Goals as goal

pub returns : goal.returns
returns c = one_first_refusal
