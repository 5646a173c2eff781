use Rattle.p3_metric.proofs.EntryLemmas.{product_fits}
use Rattle.p3_metric.proofs.entries.times.Goals as goal

pub returns : goal.returns
returns c = product_fits c.args.factor c.args.number c.ranges.factor c.ranges.number c.requires
