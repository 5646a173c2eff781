use Rattle.p3_task.proofs.StepNumberLaws.{steps_have_numbers}
use Rattle.p3_ground.proofs.Asked.{all_are_asked}
use Rattle.p3_ground.proofs.Extras.{extras_alike}
use Rattle.p3_ground.proofs.laws.wide_steps_take_as_many_actions.Goals as goal

pub returns : goal.returns
returns c = λ T G weights well stands has plan numbers are fit. extras_alike T weights has stands.atoms G stands.stands (steps_have_numbers T well) plan numbers (all_are_asked T G stands.left_out plan numbers are) fit
