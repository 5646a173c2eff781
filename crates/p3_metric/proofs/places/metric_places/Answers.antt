use Rattle.std.proofs.Common.{◌≡◌, ◌∙◌, ◌≤◌, ap, arith}
use Rattle.p3_task.specs.Metrics.{metric_places}
use Rattle.p3_metric.specs.Cut.{cut}
use Rattle.p3_metric.proofs.PlacesLaws.{few_places}
use Rattle.p3_metric.proofs.places.metric_places.Goals as goal

pub returns-clause-places : goal.returns-clause-places
returns-clause-places c =
    let T = c.args.task.now.task in
    let few : metric_places T ≤ 6 = few_places c.args.task.now.side T c.requires in
    let found : c.metric_places.result ≡ cut (metric_places T) = c.metric_places.ensures ∙ ap (λ task. cut (metric_places task)) c.task.ensures.task in
    omega (arith, few, found)

pub returns-clause-few : goal.returns-clause-few
returns-clause-few c =
    let T = c.args.task.now.task in
    let few : metric_places T ≤ 6 = few_places c.args.task.now.side T c.requires in
    let found : c.metric_places.result ≡ cut (metric_places T) = c.metric_places.ensures ∙ ap (λ task. cut (metric_places task)) c.task.ensures.task in
    omega (arith, few, found)
