use Rattle.p3_flat.proofs.WorkedCases as worked
use Rattle.p3_flat.proofs.laws.worked_actions.Goals as goal

pub returns : goal.returns
returns c = worked.worked_actions
