use Rattle.std.proofs.Common.{◌+◌, ◌<◌, ◌∙◌, [], length, take, get_or, sym, ap, subst}
use Rattle.p3_compile.specs.Parts.{actions_of}
use Rattle.p3_compile.specs.Stepping.{AreMade, HasNextActions, IsNextStep}
use Rattle.p3_compile.proofs.BegunLaws.{next_step, one_step_more}
use Rattle.p3_compile.proofs.StepLists.{no_steps}
use Rattle.p3_compile.proofs.compiling.steps_actions.Goals as goal

pub loop-step-init : goal.loop-step-init
loop-step-init c =
    let begun = c.args.begun.now in
    subst (λ current. AreMade begun.frame c.args.weights.now [] begun.current current c.new-actions.result) (sym c.first_current-current.ensures)
    (subst (AreMade begun.frame c.args.weights.now [] begun.current begun.current) (sym c.new-actions.ensures) (no_steps begun.frame c.args.weights.now begun.current))

pub step_parts-requires : goal.step_parts-requires
step_parts-requires c =
    subst (λ step. IsNextStep c.args.begun.now c.args.weights.now step c.loop-step.current) (sym c.in_ok-own.ensures)
    (next_step c.args.task.now c.args.weights.now c.args.begun.now c.requires.ready c.requires.begun c.loop-step.step-index c.step-item.result
    (subst (λ steps. c.loop-step.step-index < length steps) c.items-step-items.ensures c.loop-step-test.true)
    (c.step-item.is ∙ ap (λ steps. get_or steps c.loop-step.step-index c.step-item.result) c.items-step-items.ensures)
    c.loop-step.current c.loop-step.actions c.loop-step.invariant)

pub loop-step-preserved : goal.loop-step-preserved
loop-step-preserved c =
    let begun = c.args.begun.now in
    let next = c.step_parts.new.current in
    let parts = subst (λ step. HasNextActions begun c.args.weights.now step c.loop-step.current next (actions_of c.in_ok-parts.parts)) c.in_ok-own.ensures c.in_ok-parts.ensures in
    let made = subst (HasNextActions begun c.args.weights.now c.step-item.result c.loop-step.current next) (sym c.in_ok-into_actions.ensures) parts in
    subst (AreMade begun.frame c.args.weights.now (take (c.loop-step.step-index + 1) c.args.task.now.steps) begun.current next) (sym c.in_ok-push_all.ensures)
    (one_step_more c.args.task.now c.args.weights.now begun c.requires.ready c.requires.begun c.loop-step.step-index c.step-item.result
    (subst (λ steps. c.loop-step.step-index < length steps) c.items-step-items.ensures c.loop-step-test.true)
    (c.step-item.is ∙ ap (λ steps. get_or steps c.loop-step.step-index c.step-item.result) c.items-step-items.ensures)
    c.loop-step.current c.loop-step.actions c.loop-step.invariant next c.in_ok-into_actions.field-0 made)
