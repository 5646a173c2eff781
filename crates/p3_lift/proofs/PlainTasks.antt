-- Whether a task is plain, by its ground task.
use Rattle.std.proofs.Common.{◌≡◌, ◌==◌, ◌&&◌, ap}
use Rattle.std.proofs.Math.Logic.{∥∥₁_elim}
use Rattle.std.proofs.Math.Nat.{ℕ_set}
use Rattle.p3_task.specs.Lifting.{is_cost_metric, is_plain}
use Rattle.p3_task.specs.declared.task.Task.{Task}
use Rattle.p3_formula.specs.declared.target.Weights.{Weights}
use Rattle.p3_formula.specs.declared.task.GroundTask.{GroundTask}
use Rattle.p3_eval.specs.Runs.{BelongTogether}
use Rattle.p3_lift.specs.Plain.{has_plain_trees}

pub plain_by : (T : Task) (G : GroundTask) (w : Weights) → BelongTogether T G w → (has_plain_trees T && G.initial_cost == 0 && is_cost_metric T.problem.metric) ≡ is_plain T
unfolding is_plain
plain_by T G w all = ap (λ cost. has_plain_trees T && cost == 0 && is_cost_metric T.problem.metric) (∥∥₁_elim all.stands (ℕ_set _ _) (λ stands. stands.stands.initial_cost))
