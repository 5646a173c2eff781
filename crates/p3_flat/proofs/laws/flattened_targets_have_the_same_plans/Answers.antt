use Rattle.p3_flat.proofs.PlanLaws.{same_plans}
use Rattle.p3_flat.proofs.laws.flattened_targets_have_the_same_plans.Goals as goal

pub returns : goal.returns
returns c = λ X Y names flat. same_plans X Y names flat
