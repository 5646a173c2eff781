use Rattle.p3_steps.proofs.CostLaws.{costs-mean}
use Rattle.p3_steps.proofs.cost_laws.effects_cost_alike_by_number.Goals as goal

pub returns : goal.returns
returns c = costs-mean
