use Rattle.p3_plans.proofs.PlanLaws.{a_plan_where_no_offence}
use Rattle.p3_plans.proofs.laws.a_plan_where_no_offence.Goals as goal

pub returns : goal.returns
returns c = a_plan_where_no_offence
