use Rattle.p3_steps.proofs.PossibleLaws.{begins-possible}
use Rattle.p3_steps.proofs.candidate_laws.candidates_have_possible_atoms.Goals as goal

pub returns : goal.returns
returns c N S slots tree may = begins-possible N S slots tree may
