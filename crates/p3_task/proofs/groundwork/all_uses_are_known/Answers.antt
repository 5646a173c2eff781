use Rattle.p3_task.proofs.KnownLaws.{knows_uses}
use Rattle.p3_task.proofs.groundwork.all_uses_are_known.Goals as goal

pub returns : goal.returns
returns c = knows_uses
