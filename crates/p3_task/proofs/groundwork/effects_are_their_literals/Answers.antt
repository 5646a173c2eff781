use Rattle.p3_task.proofs.LiteralLaws.{adds-literals, dels-literals}
use Rattle.p3_task.proofs.groundwork.effects_are_their_literals.Goals as goal

pub returns : goal.returns
returns c = record { adds = λ T s env e fact. adds-literals T s fact e env; dels = λ T s env e fact. dels-literals T s fact e env }
