use Rattle.std.proofs.Common.{◌∙◌, sym}
use Rattle.p3_task.proofs.StepNumberLaws.{steps_have_numbers}
use Rattle.p3_ground.proofs.Counts.{counts_agree}
use Rattle.p3_ground.proofs.Validity.{valid_alike}
use Rattle.p3_ground.proofs.laws.plans_that_are_asked_agree.Goals as goal

pub returns : goal.returns
returns c = record {
  alike = λ T G well stands plan numbers are.
      let same = valid_alike T stands.atoms G stands.stands (steps_have_numbers T well) plan numbers are in
      (λ valid. sym same ∙ valid, λ valid. same ∙ valid);
  agree = λ T G well stands plan numbers are fit. counts_agree T stands.atoms G stands.stands (steps_have_numbers T well) plan numbers are fit;
}
