use Rattle.p3_ground.proofs.StepParts.{steps-cost-alike}
use Rattle.p3_ground.proofs.step_parts.steps_cost_alike_by_number.Goals as goal

pub returns : goal.returns
returns c = steps-cost-alike
