use Rattle.std.proofs.Common.{◌≡◌, ◌∙◌, sym, None}
use Rattle.p3_task.specs.Refusals.Places.{first_some}
use Rattle.p3_metric.specs.Refused.{early_refusals}
use Rattle.p3_metric.proofs.CheapLemmas.{short_start}
use Rattle.p3_metric.proofs.evaluate.Evaluator.weights.Goals as goal

pub weights_from-requires-clause-start : goal.weights_from-requires-clause-start
weights_from-requires-clause-start c =
    let self = c.args.self.now in
    let early : first_some (early_refusals self.side self.task.now) ≡ None = sym c.in_ok-refusal.ensures ∙ c.in_default.is in
    short_start self.side self.task.now c.requires early
