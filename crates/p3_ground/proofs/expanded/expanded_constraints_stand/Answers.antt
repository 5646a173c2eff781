use Rattle.p3_ground.proofs.ExpandedLaws.{hard-constraints-stand, soft-constraints-stand, the-goal-stands}
use Rattle.p3_ground.proofs.expanded.expanded_constraints_stand.Goals as goal

pub returns : goal.returns
returns c = record { hard = hard-constraints-stand; soft = soft-constraints-stand; goal = the-goal-stands }
