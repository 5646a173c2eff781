use Rattle.p3_task.proofs.OffenceLemmas.{well_formed_where_no_offence}
use Rattle.p3_task.proofs.laws.well_formed_where_no_offence.Goals as goal

pub returns : goal.returns
returns c = well_formed_where_no_offence
