use Rattle.std.proofs.Common.{◌∙◌, ◌==◌, ◌&&◌, ap}
use Rattle.p3_task.specs.Lifting.{is_cost_metric}
use Rattle.p3_formula.specs.declared.task.GroundTask.{GroundTask}
use Rattle.p3_types.specs.declared.checked.Checked.{Checked}
use Rattle.p3_eval.proofs.WholeRuns.{grounded_together}
use Rattle.p3_lift.specs.Plain.{has_plain_trees}
use Rattle.p3_lift.proofs.PlainTasks.{plain_by}
use Rattle.p3_lift.proofs.plain.is_plain.Goals as goal

pub returns : goal.returns
returns c =
    let grounded = c.args.grounded.now in
    let task = c.task-task.ensures.task ∙ ap (λ (checked : Checked). checked.task) c.checked.ensures.checked in
    let cost = ap (λ (G : GroundTask). G.initial_cost) c.ground_task.ensures in
    c.is_plain_from.ensures
    ∙ (λ i. has_plain_trees (task i) && cost i == 0 && is_cost_metric (task i).problem.metric)
    ∙ plain_by grounded.checked.now.task grounded.ground_task.now grounded.weights.now (grounded_together grounded)
