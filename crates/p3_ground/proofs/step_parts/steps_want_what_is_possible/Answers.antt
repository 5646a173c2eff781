use Rattle.p3_ground.proofs.StepConjuncts.{wants-what-is-possible}
use Rattle.p3_ground.proofs.step_parts.steps_want_what_is_possible.Goals as goal

pub returns : goal.returns
returns c = wants-what-is-possible
