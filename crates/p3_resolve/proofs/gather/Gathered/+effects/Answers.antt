use Rattle.p3_resolve.specs.Listed.{effect_lists}
use Rattle.p3_resolve.proofs.GatherLemmas.{list-more}
use Rattle.p3_resolve.proofs.gather.Gathered.+effects.Goals as goal

pub effects-loop-part-preserved : goal.effects-loop-part-preserved
effects-loop-part-preserved t c =
    list-more effect_lists c.args.self.now c.loop-part.self c.effect.new.self c.args.parts.now c.loop-part.part-index c.part-item.result
    c.loop-part-test.true c.part-item.is c.loop-part.invariant c.in_ok-effect.ensures
