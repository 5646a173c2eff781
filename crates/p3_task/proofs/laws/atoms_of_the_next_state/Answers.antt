use Rattle.p3_task.proofs.StateLemmas.{has_fact-next}
use Rattle.p3_task.proofs.laws.atoms_of_the_next_state.Goals as goal

pub returns : goal.returns
returns c = has_fact-next
