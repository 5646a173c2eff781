use Rattle.std.proofs.Common.{sym}
use Rattle.std.proofs.lemmas.Slice.Zip.{AllZip-long}
use Rattle.p3_task.proofs.StepNumberLaws.{steps_have_numbers}
use Rattle.p3_task.specs.Constraints.{instances}
use Rattle.p3_ground.specs.StandsFor.{SoftStands}
use Rattle.p3_ground.proofs.Asked.{all_are_asked}
use Rattle.p3_ground.proofs.Counts.{counts_agree, losses_alike}
use Rattle.p3_ground.proofs.laws.counts_and_costs_agree.Goals as goal

pub returns : goal.returns
returns c = record {
  agree = λ T G well stands plan numbers are fit. counts_agree T stands.atoms G stands.stands (steps_have_numbers T well) plan numbers (all_are_asked T G stands.left_out plan numbers are) fit;
  losses = λ T G weights well stands long plan numbers are fit. losses_alike T stands.atoms G stands.stands (steps_have_numbers T well) weights long plan numbers (all_are_asked T G stands.left_out plan numbers are) fit;
  instances = λ T G stands. sym (AllZip-long (SoftStands T stands.atoms) (instances T) G.soft stands.stands.soft);
}
