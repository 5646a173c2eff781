use Rattle.p3_task.proofs.OperatorLaws.{sat-operators}
use Rattle.p3_task.proofs.groundwork.constraints_are_their_operators.Goals as goal

pub returns : goal.returns
returns c = λ T W env c. sat-operators T W c env
