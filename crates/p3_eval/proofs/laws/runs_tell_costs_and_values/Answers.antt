use Rattle.p3_task.proofs.StepNumberLaws.{steps_have_numbers}
use Rattle.p3_ground.proofs.Asked.{all_are_asked}
use Rattle.p3_eval.proofs.RunLaws.{total_alike, value_alike}
use Rattle.p3_eval.proofs.RunReady.{accepted_weights}
use Rattle.p3_eval.proofs.laws.runs_tell_costs_and_values.Goals as goal

pub returns : goal.returns
returns c = record {
  costs = λ T G well stands plan numbers are fit. total_alike T stands.atoms G stands.stands (steps_have_numbers T well) plan numbers (all_are_asked T G stands.left_out plan numbers are) fit;
  values = λ side T G w well stands has none plan numbers are fit.
      value_alike T stands.atoms G stands.stands (steps_have_numbers T well) plan numbers (all_are_asked T G stands.left_out plan numbers are) fit w (accepted_weights side T well none w has);
}
