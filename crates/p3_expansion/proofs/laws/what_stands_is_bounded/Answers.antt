use Rattle.p3_expansion.proofs.BoundLemmas.{are-bounded}
use Rattle.p3_expansion.proofs.laws.what_stands_is_bounded.Goals as goal

pub returns : goal.returns
returns c = are-bounded
