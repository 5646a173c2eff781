use Rattle.p3_metric.proofs.AcceptedLaws.{linear_where_accepted}
use Rattle.p3_metric.proofs.laws.accepted_metrics_are_linear.Goals as goal

pub returns : goal.returns
returns c = linear_where_accepted
