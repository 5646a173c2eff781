use Rattle.p3_expansion.proofs.NamedReads.{reads-named}
use Rattle.p3_expansion.proofs.laws.well_formed_tasks_read_names.Goals as goal

pub returns : goal.returns
returns c = reads-named
