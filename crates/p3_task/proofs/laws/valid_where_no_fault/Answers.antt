use Rattle.p3_task.proofs.ValidityLemmas.{valid_where_no_fault}
use Rattle.p3_task.proofs.laws.valid_where_no_fault.Goals as goal

pub returns : goal.returns
returns c = valid_where_no_fault
