use Rattle.p3_meanings.proofs.Worked.{names_in_order}
use Rattle.p3_meanings.proofs.laws.worked_names.Goals as goal

pub returns : goal.returns
returns c = names_in_order
