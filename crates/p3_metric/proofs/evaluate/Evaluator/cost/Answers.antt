use Rattle.std.proofs.Common.{ℕ, subst, pos, true}
use Rattle.p3_metric.specs.Forms.{IsLeaf, nothing_each}
use Rattle.p3_metric.proofs.StepLemmas.{total_cost_evaluated}
use Rattle.p3_metric.proofs.evaluate.Evaluator.cost.Goals as goal

pub returns-clause-form : goal.returns-clause-form
returns-clause-form c =
    let P : ℕ → Type 0 = λ n. IsLeaf n (pos 0) (pos 1) nothing_each true c.total_cost.result in
    total_cost_evaluated c.args.self.now.task.now c.args.at c.total_cost.result (subst P c.args.self.now.counted c.total_cost.ensures) c.requires
