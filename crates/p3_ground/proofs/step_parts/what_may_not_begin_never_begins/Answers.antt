use Rattle.p3_ground.proofs.StepParts.{never-begins}
use Rattle.p3_ground.proofs.step_parts.what_may_not_begin_never_begins.Goals as goal

pub returns : goal.returns
returns c = never-begins
