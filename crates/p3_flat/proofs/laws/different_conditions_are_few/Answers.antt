use Rattle.p3_flat.proofs.PlacingLemmas.{conditions_few}
use Rattle.p3_flat.proofs.laws.different_conditions_are_few.Goals as goal

pub returns : goal.returns
returns c = λ effects. conditions_few effects
