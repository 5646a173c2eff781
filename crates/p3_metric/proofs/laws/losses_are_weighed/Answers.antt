use Rattle.p3_metric.proofs.MentionLaws.{counts_names}
use Rattle.p3_metric.proofs.WeighedLaws.{is_weights}
use Rattle.p3_metric.proofs.laws.losses_are_weighed.Goals as goal

pub returns : goal.returns
returns c T w well linear has = is_weights T linear (counts_names T well) w has
