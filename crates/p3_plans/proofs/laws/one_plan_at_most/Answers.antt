use Rattle.p3_plans.proofs.PlanLaws.{one_plan_at_most}
use Rattle.p3_plans.proofs.laws.one_plan_at_most.Goals as goal

pub returns : goal.returns
returns c = one_plan_at_most
