use Rattle.p3_ground.proofs.ExpandedLaws.{steps-stand, steps-are-few}
use Rattle.p3_ground.proofs.expanded.expanded_steps_stand.Goals as goal

pub returns : goal.returns
returns c = record { made = steps-stand; few = steps-are-few }
