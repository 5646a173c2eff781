use Rattle.p3_expansion.proofs.NextLemmas.{changes-make-next, changes-are-few}
use Rattle.p3_expansion.proofs.laws.changes_stand_for_the_effect.Goals as goal

pub returns : goal.returns
returns c = record { next = changes-make-next; few = changes-are-few }
