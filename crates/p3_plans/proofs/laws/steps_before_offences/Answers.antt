use Rattle.p3_plans.proofs.PlanLaws.{steps_before_offences}
use Rattle.p3_plans.proofs.laws.steps_before_offences.Goals as goal

pub returns : goal.returns
returns c = steps_before_offences
