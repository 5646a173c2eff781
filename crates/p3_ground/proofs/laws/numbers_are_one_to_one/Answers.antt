use Rattle.std.proofs.Common.{sym}
use Rattle.std.proofs.lemmas.Slice.Zip.{AllZip-long}
use Rattle.p3_task.proofs.StepNumberLaws.{steps_have_numbers}
use Rattle.p3_task.specs.StepNumbers.{HasNumber}
use Rattle.p3_ground.proofs.PlanNumbers.{same_numbers, same_plan}
use Rattle.p3_ground.proofs.laws.numbers_are_one_to_one.Goals as goal

pub returns : goal.returns
returns c = record {
  one_list = λ T well plan numbers others e f. same_numbers T (steps_have_numbers T well) plan numbers others e f;
  one_plan = same_plan;
  as_long = λ T plan numbers e. sym (AllZip-long (HasNumber T) plan numbers e);
}
