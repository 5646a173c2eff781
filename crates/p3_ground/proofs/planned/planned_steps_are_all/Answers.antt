use Rattle.p3_ground.proofs.PlannedSteps.{planned-steps-are-all, planned-steps-read-names, steps-are-counted}
use Rattle.p3_ground.proofs.planned.planned_steps_are_all.Goals as goal

pub returns : goal.returns
returns c = record { all = planned-steps-are-all; names = planned-steps-read-names; counted = steps-are-counted }
