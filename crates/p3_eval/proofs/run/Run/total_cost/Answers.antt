use Rattle.std.proofs.Common.{◌≡◌, ◌∙◌, pos, subst, to_z, of_z}
use Rattle.std.proofs.lemmas.Int.{to_z-of_z}
use mir.Syntax.{w128}
use Rattle.p3_task.specs.Metrics.{cost}
use Rattle.p3_run.specs.Runs.{Ran}
use Rattle.p3_eval.specs.Runs.{OfItsPlan}
use Rattle.p3_eval.proofs.RunKept.{told_total}
use Rattle.p3_eval.proofs.run.Run.total_cost.Goals as goal

pub returns : goal.returns
returns c =
    let total = to_z w128 (of_z w128 c.total_cost.result) in
    subst (λ (ran : Ran). OfItsPlan ran (λ T plan. total ≡ pos (cost T plan))) c.self.view_is
    (told_total c.self.inside.ground_run c.self.invariant total (to_z-of_z w128 c.total_cost.result (record { sfits = c.total_cost.type_inv }) ∙ c.total_cost.ensures))
