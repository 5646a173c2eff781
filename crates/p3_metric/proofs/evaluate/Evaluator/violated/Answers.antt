use Rattle.std.proofs.Common.{List, ℕ, subst, pos, true}
use Rattle.p3_metric.specs.Forms.{IsLeaf, one_each}
use Rattle.p3_metric.proofs.StepLemmas.{count_evaluated}
use Rattle.p3_metric.proofs.evaluate.Evaluator.violated.Goals as goal

pub returns-clause-form : goal.returns-clause-form
returns-clause-form c =
    let P : List ℕ → Type 0 = λ name. IsLeaf 0 (pos 0) (pos 0) (one_each name) true c.in_ok-form.form in
    count_evaluated c.args.self.now.task.now c.args.name.now c.in_ok-form.form (subst P c.bytes.ensures.bytes c.in_ok-form.ensures)
