use Rattle.p3_flat.proofs.FlatLaws.{can_be_flattened}
use Rattle.p3_flat.proofs.laws.compiled_targets_can_be_flattened.Goals as goal

pub returns : goal.returns
returns c = λ X named. can_be_flattened X named
