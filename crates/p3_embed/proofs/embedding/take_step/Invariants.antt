use Rattle.std.proofs.Common.{◌-◌, length}
use Rattle.p3_embed.specs.Embeds.{plan_length}
use Rattle.p3_embed.specs.Sought.{IsWalkFor}
use Rattle.p3_embed.proofs.embedding.take_step.Given as goal

-- the step is still to be taken
abbrev pub invariant-loop-place : goal.invariant-loop-place
invariant-loop-place l = IsWalkFor l.sought l.at l.walk

-- as many actions as the plan has left
abbrev pub decreases-loop-place : goal.decreases-loop-place
decreases-loop-place l = plan_length l.sought.task.now l.sought.weights.now l.sought.numbers.now - length l.walk.places.items
