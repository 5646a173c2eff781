use Rattle.std.proofs.Common.{ℕ, subst}
use Rattle.p3_task.specs.Costs.{cost_places}
use Rattle.p3_task.specs.declared.task.Task.{Task}
use Rattle.p3_numbers.specs.declared.task.NumberedTask.{NumberedTask}
use Rattle.p3_types.specs.Finds.{HasOtherArguments}
use Rattle.p3_inapplicable.specs.Headings.{HasFaultyArguments}
use Rattle.p3_reports.specs.declared.fault.Misfit.TheVariants as misfit
use Rattle.p3_inapplicable.specs.Reasons.{NamesValue, ShowsStep}
use Rattle.p3_inapplicable.proofs.ReasonLemmas.{cost-reason, has-other-arguments, of-kind, precondition-reason, unknown-reason}
use Rattle.p3_inapplicable.proofs.reason.reason_of.Goals as goal

pub returns-in-UnknownAction : goal.returns-in-UnknownAction
returns-in-UnknownAction c plan at =
    let S = c.args.checked.now in
    of-kind S.task S.numbered plan c.args.steps.now c.args.number c.args.step.now c.plain.result c.args.kind misfit.UnknownAction c.in-UnknownAction.is
    (λ in_plan. unknown-reason S.task plan c.args.number c.args.step.now c.plain.result at in_plan.first c.plain.ensures.fault c.plain.ensures.shown)

pub returns-in_ok-reason-in-Arguments : goal.returns-in_ok-reason-in-Arguments
returns-in_ok-reason-in-Arguments c plan at =
    let S = c.args.checked.now in
    of-kind S.task S.numbered plan c.args.steps.now c.args.number c.args.step.now c.in_ok-reason-in-Arguments.reason c.args.kind misfit.Arguments c.in-Arguments.is
    (λ in_plan. subst (λ (T : Task). HasOtherArguments T c.args.step.now → HasFaultyArguments T c.args.step.now c.in_ok-reason-in-Arguments.reason) c.task-task.ensures.task c.in_ok-reason-in-Arguments.ensures (has-other-arguments S.task plan c.args.number c.args.step.now at in_plan.first))

pub returns-in_ok-reason-in-Precondition : goal.returns-in_ok-reason-in-Precondition
returns-in_ok-reason-in-Precondition c plan at =
    let S = c.args.checked.now in
    let reason = c.in_ok-reason-in-Precondition.reason in
    let shows =
    subst (λ (place : ℕ). ShowsStep S.numbered c.args.steps.now place reason) c.saturating_sub-place.ensures
    (subst (λ (X : NumberedTask). ShowsStep X c.args.steps.now c.saturating_sub-place.result reason) c.numbered-numbered.ensures.task c.in_ok-reason-in-Precondition.ensures) in
    of-kind S.task S.numbered plan c.args.steps.now c.args.number c.args.step.now reason c.args.kind misfit.Precondition c.in-Precondition.is
    (precondition-reason S.task S.numbered c.task-task.ensures.well_formed c.numbered-numbered.ensures.numbered plan c.args.steps.now c.args.number c.args.step.now at reason shows)

pub returns-in_ok-reason-in-NoCost : goal.returns-in_ok-reason-in-NoCost
returns-in_ok-reason-in-NoCost c plan at =
    let S = c.args.checked.now in
    let reason = c.in_ok-reason-in-NoCost.reason in
    let names =
    subst (λ (place : ℕ). NamesValue (cost_places S.task) S.numbered c.args.steps.now place reason) c.saturating_sub-place.ensures
    (subst (λ (places : ℕ). NamesValue places S.numbered c.args.steps.now c.saturating_sub-place.result reason) c.cost_places.ensures.places
    (subst (λ (X : NumberedTask). NamesValue c.cost_places.result X c.args.steps.now c.saturating_sub-place.result reason) c.numbered-numbered.ensures.task c.in_ok-reason-in-NoCost.ensures)) in
    of-kind S.task S.numbered plan c.args.steps.now c.args.number c.args.step.now reason c.args.kind misfit.NoCost c.in-NoCost.is
    (cost-reason S.task S.numbered c.task-task.ensures.well_formed c.numbered-numbered.ensures.numbered plan c.args.steps.now c.args.number c.args.step.now at reason names)
