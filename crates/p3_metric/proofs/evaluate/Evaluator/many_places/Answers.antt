use Rattle.std.proofs.Common.{◌∙◌}
use Rattle.std.proofs.lemmas.Result.{IfOk-weaker}
use Rattle.p3_metric.proofs.MetricLemmas.{many_places_are}
use Rattle.p3_metric.proofs.evaluate.Evaluator.many_places.Goals as goal

pub returns-in-Some : goal.returns-in-Some
returns-in-Some c =
    let self = c.args.self.now in
    IfOk-weaker c.many_places_in.result _ _ (λ found is. is ∙ many_places_are self.side self.task.now c.in-Some.metric c.in-Some.is self.role self.sided) c.many_places_in.ensures
