use Rattle.p3_why.specs.Asked.{asking_of}
use Rattle.p3_why.proofs.EndingLemmas.{must_answer}
use Rattle.p3_why.proofs.call.why.Goals as goal

pub returns-clause-completes : goal.returns-clause-completes
returns-clause-completes g c = let (how, ends) = c.carried_through.ensures.ending in must_answer (asking_of c.args.words.now) _ _ _ _ _ how ends
