use Rattle.p3_plans.proofs.SliceLemmas.{slices_are_texts_of_steps}
use Rattle.p3_plans.proofs.laws.slices_are_texts_of_steps.Goals as goal

pub returns : goal.returns
returns c = slices_are_texts_of_steps
