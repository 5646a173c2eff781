use Rattle.p3_formula.proofs.NextLaws.{after-alike}
use Rattle.p3_formula.proofs.laws.alike_changes_make_the_same_state.Goals as goal

pub returns : goal.returns
returns c = after-alike
