use Rattle.p3_unmet.proofs.BindingLaws.{pairs-bind}
use Rattle.p3_unmet.proofs.laws.pairs_bind.Goals as goal

pub returns : goal.returns
returns c = pairs-bind
