use Rattle.std.proofs.Common.{◌≡◌, ◌∙◌, subst, to_z, of_z}
use Rattle.std.proofs.lemmas.Int.{to_z-of_z}
use mir.Syntax.{w128}
use Rattle.p3_task.specs.Metrics.{value}
use Rattle.p3_run.specs.Runs.{Ran}
use Rattle.p3_eval.specs.Runs.{OfItsPlan}
use Rattle.p3_eval.proofs.RunKept.{told_value}
use Rattle.p3_eval.proofs.run.Run.metric.Goals as goal

pub returns : goal.returns
returns c =
    let metric = to_z w128 (of_z w128 c.metric.result) in
    subst (λ (ran : Ran). OfItsPlan ran (λ T plan. metric ≡ value T plan)) c.self.view_is
    (told_value c.self.inside.ground_run c.self.invariant metric (to_z-of_z w128 c.metric.result (record { sfits = c.metric.type_inv }) ∙ c.metric.ensures))
