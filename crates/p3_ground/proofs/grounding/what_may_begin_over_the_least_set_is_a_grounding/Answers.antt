use Rattle.p3_ground.proofs.GroundingLaws.{is-grounding}
use Rattle.p3_ground.proofs.grounding.what_may_begin_over_the_least_set_is_a_grounding.Goals as goal

pub returns : goal.returns
returns c = is-grounding
