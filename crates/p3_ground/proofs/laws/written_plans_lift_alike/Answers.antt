use Rattle.p3_ground.proofs.Lifts.{lift_alike}
use Rattle.p3_ground.proofs.laws.written_plans_lift_alike.Goals as goal

pub returns : goal.returns
returns c = λ T G stands written bare. lift_alike T G stands.stands.step_count written bare
