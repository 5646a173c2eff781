use Rattle.std.proofs.Common.{length, refl}
use Rattle.p3_embed.proofs.TakenLaws.{begins_walk, embedded}
use Rattle.p3_embed.proofs.embedding.embed_numbers.Goals as goal

pub loop-at-init : goal.loop-at-init
loop-at-init c = begins_walk c.args.task.now c.args.weights.now c.args.target.now c.args.numbers.now c.requires c.in_ok-walk.walk c.in_ok-walk.ensures

pub returns-clause-plan : goal.returns-clause-plan
returns-clause-plan c =
    embedded c.args.task.now c.args.weights.now c.args.target.now c.args.numbers.now c.requires c.in_ok-actions.actions c.in_ok-actions.ensures (length c.args.numbers.now) c.take_rest.new.walk c.in_ok-take_rest.ensures.walk refl c.in_ok-take_rest.ensures.goal
