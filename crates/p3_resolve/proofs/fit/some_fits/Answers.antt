use Rattle.std.proofs.Common.{◌∙◌, sym}
use Rattle.p3_task.proofs.MeaningLemmas.{list_any-map}
use Rattle.p3_hierarchy.specs.Objects.{fits}
use Rattle.p3_resolve.proofs.fit.some_fits.Goals as goal

pub returns : goal.returns
returns c = c.any_fits.ensures ∙ sym (list_any-map (fits c.args.below.now.task.now c.args.below.now.types.now) (λ item. item.now) c.args.items.now)
