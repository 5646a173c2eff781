use Rattle.p3_task.proofs.StepNumberLaws.{steps_have_numbers}
use Rattle.p3_task.proofs.groundwork.steps_have_one_number.Goals as goal

pub returns : goal.returns
returns c = steps_have_numbers
