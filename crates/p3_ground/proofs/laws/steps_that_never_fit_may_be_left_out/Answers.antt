use Rattle.p3_task.proofs.StepNumberLaws.{steps_have_numbers}
use Rattle.p3_ground.proofs.PrunedSparse.{pruned-sparse}
use Rattle.p3_ground.proofs.Pruning.{pruned_stands, pruned_leaves_out}
use Rattle.p3_ground.proofs.laws.steps_that_never_fit_may_be_left_out.Goals as goal

pub returns : goal.returns
returns c = record {
  stands = λ T atoms G set well stands closed. pruned_stands T atoms G set stands;
  left_out = λ T atoms G set well stands left_out closed. pruned_leaves_out T atoms G stands left_out (steps_have_numbers T well) set closed;
  sparse = pruned-sparse;
}
