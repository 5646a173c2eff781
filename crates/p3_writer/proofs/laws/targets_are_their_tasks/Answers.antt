use Rattle.p3_writer.proofs.WrittenShape.{is_written}
use Rattle.p3_writer.proofs.laws.targets_are_their_tasks.Goals as goal

pub returns : goal.returns
returns c = is_written
