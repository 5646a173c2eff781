use Rattle.p3_metric.proofs.MetricLemmas.{fit_metric}
use Rattle.p3_metric.proofs.evaluate.Evaluator.form.Goals as goal

pub evaluate-requires : goal.evaluate-requires
evaluate-requires c = fit_metric c.args.self.now.side c.args.self.now.task.now c.in-Some.metric c.in-Some.is c.requires.linear c.requires.places
