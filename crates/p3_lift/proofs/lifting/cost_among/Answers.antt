use Rattle.std.proofs.Common.{subst}
use Rattle.std.specs.Prelude.{IfOk}
use Rattle.p3_types.specs.declared.checked.Checked.{Checked}
use Rattle.p3_eval.specs.Steps.{OfSteps}
use Rattle.p3_lift.specs.Judging.{IsPlanAt}
use Rattle.p3_lift.proofs.lifting.cost_among.Goals as goal

pub returns-clause-cost : goal.returns-clause-cost
returns-clause-cost c =
    let steps = c.args.steps.now in
    subst (λ (checked : Checked). IfOk c.cost_of-cost.result (λ cost. OfSteps checked.task steps (IsPlanAt checked.task steps.numbers.items cost))) c.grounded.ensures.checked c.cost_of-cost.ensures.cost
