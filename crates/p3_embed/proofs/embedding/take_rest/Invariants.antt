use Rattle.std.proofs.Common.{◌-◌, length}
use Rattle.p3_embed.specs.Embeds.{plan_length}
use Rattle.p3_embed.specs.Sought.{IsWalkFor}
use Rattle.p3_embed.proofs.embedding.take_rest.Given as goal

-- all steps are taken
abbrev pub invariant-loop-target : goal.invariant-loop-target
invariant-loop-target l = IsWalkFor l.sought (length l.sought.numbers.now) l.walk

-- as many actions as the plan has left
abbrev pub decreases-loop-target : goal.decreases-loop-target
decreases-loop-target l = plan_length l.sought.task.now l.sought.weights.now l.sought.numbers.now - length l.walk.places.items
