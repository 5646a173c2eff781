use Rattle.p3_expansion.proofs.StaticLemmas.{start-told}
use Rattle.p3_expansion.proofs.laws.the_start_is_told.Goals as goal

pub returns : goal.returns
returns c = λ T X S atoms well numbered are. start-told T X S well numbered are atoms
