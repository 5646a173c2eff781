use Rattle.p3_task.proofs.LineLaws.{are_lines}
use Rattle.p3_task.proofs.laws.pieces_are_lines.Goals as goal

pub returns : goal.returns
returns c = λ text. are_lines 0 text
