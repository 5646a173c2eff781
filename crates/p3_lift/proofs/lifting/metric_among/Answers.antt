use Rattle.std.proofs.Common.{subst}
use Rattle.std.specs.Prelude.{IfErr, IfOk}
use Rattle.std.proofs.lemmas.Int.{to_z-of_z}
use mir.Syntax.{w128}
use Rattle.p3_types.specs.declared.checked.Checked.{Checked}
use Rattle.p3_eval.specs.Steps.{OfSteps}
use Rattle.p3_lift.specs.Judging.{DiffersAt, IsWorthAt}
use Rattle.p3_lift.proofs.lifting.metric_among.Goals as goal

pub returns-clause-metric : goal.returns-clause-metric
returns-clause-metric c =
    let result = c.metric_of-metric.result in
    let copied = c.args.copied.now in
    let T = c.grounded.result.checked.now.task in
    subst (λ (checked : Checked). IfOk result (λ metric. OfSteps checked.task copied (IsWorthAt checked.task c.args.cost metric))) c.grounded.ensures.checked
    (subst (λ cost. IfOk result (λ metric. OfSteps T copied (IsWorthAt T cost metric))) (to_z-of_z w128 c.args.cost c.ranges.cost) c.metric_of-metric.ensures.metric)

pub returns-clause-refused : goal.returns-clause-refused
returns-clause-refused c =
    let result = c.metric_of-metric.result in
    let copied = c.args.copied.now in
    let T = c.grounded.result.checked.now.task in
    subst (λ (checked : Checked). IfErr result (λ fail. OfSteps checked.task copied (DiffersAt checked.task c.args.cost fail))) c.grounded.ensures.checked
    (subst (λ cost. IfErr result (λ fail. OfSteps T copied (DiffersAt T cost fail))) (to_z-of_z w128 c.args.cost c.ranges.cost) c.metric_of-metric.ensures.refused)
