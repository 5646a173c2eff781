use Rattle.p3_numbers.proofs.KnownLaws.{task-known}
use Rattle.p3_numbers.proofs.laws.well_formed_tasks_are_known.Goals as goal

pub returns : goal.returns
returns c = task-known
