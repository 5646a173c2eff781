use Rattle.p3_ground.proofs.NamesBelow.{has_names_below}
use Rattle.p3_ground.proofs.laws.names_are_below.Goals as goal

pub returns : goal.returns
returns c = λ T G stands. has_names_below T stands.atoms G stands.stands
