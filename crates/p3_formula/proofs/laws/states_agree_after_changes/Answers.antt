use Rattle.p3_formula.proofs.NextLaws.{after-agree}
use Rattle.p3_formula.proofs.laws.states_agree_after_changes.Goals as goal

pub returns : goal.returns
returns c = λ count first second effects agree below room room_two. after-agree count first second agree effects below room room_two
