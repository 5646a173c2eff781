use Rattle.p3_ground.proofs.OwnAtoms.{hard-atoms-are-own, soft-atoms-are-own}
use Rattle.p3_ground.proofs.expanded.expanded_constraints_have_own_atoms.Goals as goal

pub returns : goal.returns
returns c = record { hard = hard-atoms-are-own; soft = soft-atoms-are-own }
