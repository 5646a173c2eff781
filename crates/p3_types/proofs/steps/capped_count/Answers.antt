use Rattle.std.proofs.Common.{◌∙◌, ◌*◌, ap, refl, min}
use Rattle.std.proofs.Common.{length}
use Rattle.p3_types.proofs.StepLemmas.{capped_none, capped_more}
use Rattle.p3_types.proofs.steps.capped_count.Goals as goal
use Rattle.p3_types.specs.FirstSteps.{too_many}

pub loop-range-init : goal.loop-range-init
loop-range-init c = capped_none c.args.numbers.now

pub loop-range-preserved : goal.loop-range-preserved
loop-range-preserved c =
    c.capped_product-count.ensures ∙ ap (λ objects. min (c.loop-range.count * length objects) too_many) c.objects_of.ensures
    ∙ capped_more c.args.numbers.now c.args.ranges.now c.loop-range.range-index c.loop-range.count _ c.loop-range-test.true refl c.loop-range.invariant
