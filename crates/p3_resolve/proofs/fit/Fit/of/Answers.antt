use Rattle.std.proofs.Common.{◌∙◌, subst, sym}
use Rattle.p3_task.specs.Types.{declared_objects}
use Rattle.p3_resolve.specs.ByNumber.{repeated_items}
use Rattle.p3_resolve.specs.Fitting.{AreNamesFitting}
use Rattle.p3_resolve.proofs.fit.Fit.of.Goals as goal

pub invariant_of-result : goal.invariant_of-result
invariant_of-result c =
    let below = c.in_ok-below.below in
    record {
      told = subst (λ items. AreNamesFitting below.task.now below.types.now items c.in_ok-repeated.repeated)
          (c.requires ∙ (λ i. repeated_items (declared_objects (sym c.in_ok-below.ensures.task i)))) c.in_ok-repeated.ensures;
    }
