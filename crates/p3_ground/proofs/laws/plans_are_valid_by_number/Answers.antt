use Rattle.std.proofs.Common.{◌≡◌, ◌∙◌, sym}
use Rattle.p3_task.proofs.StepNumberLaws.{steps_have_numbers}
use Rattle.p3_task.specs.Validity.{is_valid}
use Rattle.p3_formula.specs.GroundPlans.{GroundPlan, is_ground_valid}
use Rattle.p3_ground.specs.PlansByNumber.{AreNumbers}
use Rattle.p3_ground.proofs.Asked.{all_are_asked}
use Rattle.p3_ground.proofs.PlanNumbers.{has_numbers, valid_fits}
use Rattle.p3_ground.proofs.Validity.{valid_alike}
use Rattle.p3_ground.proofs.laws.plans_are_valid_by_number.Goals as goal

pub returns : goal.returns
returns c = record {
  exactly = λ T G well stands plan.
      let K = steps_have_numbers T well in
      let same : (numbers : GroundPlan) → AreNumbers T plan numbers → is_valid T plan ≡ is_ground_valid G numbers = λ numbers are. valid_alike T stands.atoms G stands.stands K plan numbers (all_are_asked T G stands.left_out plan numbers are) in (
        λ valid. let (numbers, are) = has_numbers T K plan (valid_fits T plan valid) in record { numbers = numbers; are = are; valid = sym (same numbers are) ∙ valid },
        λ has. same has.numbers has.are ∙ has.valid,
      );
  alike = λ T G well stands plan numbers are.
      let same = valid_alike T stands.atoms G stands.stands (steps_have_numbers T well) plan numbers (all_are_asked T G stands.left_out plan numbers are) in
      (λ valid. sym same ∙ valid, λ valid. same ∙ valid);
  fits = valid_fits;
}
