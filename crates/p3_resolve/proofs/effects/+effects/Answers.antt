use Rattle.std.proofs.Common.{◌∙◌, ap, take}
use Rattle.p3_task.specs.Uses.{effect_uses}
use Rattle.p3_numbers.specs.Effects.{effect_of}
use Rattle.p3_resolve.specs.NumbersOf.{numbers_of}
use Rattle.p3_resolve.specs.Walk.{Walked, uses_of_each}
use Rattle.p3_resolve.proofs.FormLemmas.{tree-more, words-kept}
use Rattle.p3_resolve.proofs.WalkLemmas.{map-more}
use Rattle.p3_resolve.proofs.effects.+effects.Goals as goal

pub numbered_effects-loop-part-preserved : goal.numbered_effects-loop-part-preserved
numbered_effects-loop-part-preserved t c =
    let T = c.args.tables.now.task.now in
    let N = numbers_of c.args.tables.now in
    let walk = c.args.walk.now in
    record {
      walk = tree-more effect_uses T walk c.loop-part.walk c.numbered_effect.new.walk c.args.parts.now c.loop-part.part-index c.part-item.result
          c.loop-part-test.true c.part-item.is c.loop-part.invariant.walk c.in_ok-numbered_effect.ensures.walk;
      made = map-more (λ part. effect_of N part walk.words) c.loop-part.made c.push.new.self c.args.parts.now c.loop-part.part-index c.part-item.result c.in_ok-numbered_effect.field-0
          c.loop-part-test.true c.part-item.is c.loop-part.invariant.made
          (c.in_ok-numbered_effect.ensures.made
          ∙ ap (effect_of N c.part-item.result) (ap (λ (other : Walked). other.words) c.loop-part.invariant.walk ∙ words-kept T (uses_of_each effect_uses (take c.loop-part.part-index c.args.parts.now)) walk))
          c.in_ok-push.ensures.ok;
    }
