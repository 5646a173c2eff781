use Rattle.p3_task.proofs.StepNumberLaws.{steps_have_numbers}
use Rattle.p3_ground.proofs.Asked.{all_are_asked}
use Rattle.p3_eval.proofs.RunLaws.{fault_alike, first_misfit, fit_alike, last_met, misfit_alike}
use Rattle.p3_eval.proofs.laws.runs_tell_the_first_fault.Goals as goal

pub returns : goal.returns
returns c = record {
  fit = λ T G well stands plan numbers are. fit_alike T stands.atoms G stands.stands (steps_have_numbers T well) plan numbers (all_are_asked T G stands.left_out plan numbers are);
  misfit = λ T G well stands plan numbers are fit step number has.
      let K = steps_have_numbers T well in
      misfit_alike T stands.atoms G stands.stands K _ _ number step (last_met T stands.atoms G stands.stands K plan numbers (all_are_asked T G stands.left_out plan numbers are) fit) (has, stands.left_out number);
  at_a_step = λ T plan rest step kind fit e. first_misfit T plan step rest kind fit e;
  at_the_end = λ T G well stands plan numbers are fit. fault_alike T stands.atoms G stands.stands (steps_have_numbers T well) plan numbers (all_are_asked T G stands.left_out plan numbers are) fit;
}
