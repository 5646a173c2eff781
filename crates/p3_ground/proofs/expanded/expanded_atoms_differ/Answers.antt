use Rattle.p3_ground.proofs.ExpandedLaws.{facts-are-different}
use Rattle.p3_ground.proofs.expanded.expanded_atoms_differ.Goals as goal

pub returns : goal.returns
returns c = facts-are-different
