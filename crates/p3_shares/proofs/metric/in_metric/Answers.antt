use Rattle.p3_eval.proofs.RefusalLaws.{no_metric, well_formed_from}
use Rattle.p3_shares.proofs.metric.in_metric.Goals as goal

pub metric_places-requires : goal.metric_places-requires
metric_places-requires c = let checked = c.args.checked.now in no_metric checked.side checked.task (well_formed_from checked.task checked.well_formed) c.requires
