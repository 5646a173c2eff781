use Rattle.std.proofs.Common.{◌∙◌, ◌<◌, ◌^◌, ap, refl, subst, sym, to_z, of_z}
use Rattle.std.specs.Prelude.{◌-ℤ◌}
use Rattle.std.specs.List.{All}
use Rattle.std.proofs.lemmas.Int.{to_z-of_z}
use mir.Syntax.{w128}
use Rattle.p3_task.specs.Metrics.{signed}
use Rattle.p3_task.proofs.StepNumberLaws.{steps_have_numbers}
use Rattle.p3_run.specs.Runs.{Ran, begun}
use Rattle.p3_ground.specs.StandsFor.{LeftOutAt}
use Rattle.p3_eval.specs.Runs.{BelongTogether}
use Rattle.p3_eval.proofs.StepsLemmas.{few_of_all}
use Rattle.p3_lift.specs.Judging.{IsAboveBase}
use Rattle.p3_lift.proofs.LossLaws.{fits, is_above, is_worth}
use Rattle.p3_lift.proofs.judging.judged.Goals as goal

pub returns-in-Some : goal.returns-in-Some
returns-in-Some c plan first =
    let T = c.args.grounded.now.checked.now.task in
    let begins = sym c.in_ok-run.ensures.begun in
    let all = subst (λ (ran : Ran). BelongTogether T ran.task ran.weights) begins c.begin.ensures.task in
    let left = subst (λ (ran : Ran). All (LeftOutAt T ran.task) c.args.steps.now.numbers.items) begins c.requires.asked in
    ((c.in-Some.ensures.judged T all left plan first).fault, c.in-Some.ensures.placed)

pub loss_above-loss-requires : goal.loss_above-loss-requires
loss_above-loss-requires c =
    let T = c.args.grounded.now.checked.now.task in
    let G = c.args.grounded.now.ground_task.now in
    let w = c.weights-weights.result.now in
    let same = c.weights-weights.ensures in
    let steps = c.args.steps.now in
    let plan = c.requires.some.plan in
    let first = c.requires.some.are in
    let begins = sym c.in_ok-run.ensures.begun in
    let all = subst (λ (ran : Ran). BelongTogether T ran.task ran.weights) begins c.begin.ensures.task in
    let left = subst (λ (ran : Ran). All (LeftOutAt T ran.task) steps.numbers.items) begins c.requires.asked in
    let judged = c.in_default.ensures.judged T all left plan first in
    let metric = to_z w128 (of_z w128 c.metric-metric.result) in
    let kept = to_z-of_z w128 c.metric-metric.result (record { sfits = c.metric-metric.type_inv }) in
    let done = judged.done refl in
    let few = few_of_all T (steps_have_numbers T c.begin.ensures.task.well) plan _ done.numbers steps.numbers.items steps.rest first steps.few in
    let small = subst (All (λ weight. weight < 2 ^ 64)) c.items.ensures c.bounded-bounded.ensures.small in
    let above =
    is_above T plan G w c.in_ok-run.run' c.judge_steps.new.self (subst (BelongTogether T G) (sym same) c.begin.ensures.task) (c.in_ok-run.ensures.begun ∙ ap (begun G) (sym same))
    done judged.fault metric (λ task all plan are. kept ∙ c.metric-metric.ensures task all plan are) small few in
    subst (λ base. IsAboveBase w.direction base metric) (sym (to_z-of_z w128 w.base (fits w.base above.small))) above

pub returns : goal.returns
returns c plan first =
    let T = c.args.grounded.now.checked.now.task in
    let G = c.args.grounded.now.ground_task.now in
    let w = c.weights-weights.result.now in
    let same = c.weights-weights.ensures in
    let steps = c.args.steps.now in
    let run_begins = sym c.in_ok-run.ensures.begun in
    let all = subst (λ (ran : Ran). BelongTogether T ran.task ran.weights) run_begins c.begin.ensures.task in
    let left = subst (λ (ran : Ran). All (LeftOutAt T ran.task) steps.numbers.items) run_begins c.requires.asked in
    let judged = c.in_default.ensures.judged T all left plan first in
    let metric = to_z w128 (of_z w128 c.metric-metric.result) in
    let kept = to_z-of_z w128 c.metric-metric.result (record { sfits = c.metric-metric.type_inv }) in
    let done = judged.done refl in
    let few = few_of_all T (steps_have_numbers T c.begin.ensures.task.well) plan _ done.numbers steps.numbers.items steps.rest first steps.few in
    let small = subst (All (λ weight. weight < 2 ^ 64)) c.items.ensures c.bounded-bounded.ensures.small in
    let together = subst (BelongTogether T G) (sym same) c.begin.ensures.task in
    let begins = c.in_ok-run.ensures.begun ∙ ap (begun G) (sym same) in
    let above =
    is_above T plan G w c.in_ok-run.run' c.judge_steps.new.self together begins
    done judged.fault metric (λ task all plan are. kept ∙ c.metric-metric.ensures task all plan are) small few in
    is_worth T plan G w c.in_ok-run.run' c.judge_steps.new.self together begins
    done judged.fault metric (λ task all plan are. kept ∙ c.metric-metric.ensures task all plan are)
    (to_z w128 (of_z w128 c.loss_above-loss.result))
    (to_z-of_z w128 c.loss_above-loss.result (record { sfits = c.loss_above-loss.type_inv })
    ∙ c.loss_above-loss.ensures
    ∙ ap (λ base. signed w.direction metric -ℤ base) (to_z-of_z w128 w.base (fits w.base above.small)))
