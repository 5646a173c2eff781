use Rattle.std.proofs.Common.{◌≡◌, ◌∙◌, ◌+◌, ◌<◌, length, sym, subst, arith}
use Rattle.p3_formula.specs.GroundPlans.{ground_violated}
use Rattle.p3_run.specs.Runs.{Ran}
use Rattle.p3_run.proofs.TellLaws.{few_counts, counts_are}
use Rattle.p3_run.proofs.running.GroundRun.violations.Goals as goal

pub overflow_add-result : goal.overflow_add-result
overflow_add-result c =
    let within = subst (λ (ran : Ran). c.args.name < length ran.weights.by_name) (sym c.self.view_is) c.requires in
    let h = few_counts _ _ _ _ _ _ _ _ _ _ c.self.invariant c.args.name within in
    omega (arith, h, c.count.ensures, c.count-2.ensures)

pub returns : goal.returns
returns c =
    let within = subst (λ (ran : Ran). c.args.name < length ran.weights.by_name) (sym c.self.view_is) c.requires in
    subst (λ (ran : Ran). c.count.result + c.count-2.result ≡ ground_violated ran.task ran.plan c.args.name) c.self.view_is
    ((λ i. c.count.ensures i + c.count-2.ensures i) ∙ counts_are _ _ _ _ _ _ _ _ _ _ c.self.invariant c.args.name within)
