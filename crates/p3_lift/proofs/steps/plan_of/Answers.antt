use Rattle.std.proofs.Common.{◌∙◌, ◌++◌, ◌∷◌, [], ap, get_or, sym, take}
use Rattle.p3_task.specs.Plans.{Plan}
use Rattle.p3_lift.specs.Lifting.{numbered_steps}
use Rattle.p3_lift.proofs.NumberLaws.{numbered_more, numbered_one}
use Rattle.p3_lift.proofs.steps.plan_of.Goals as goal

pub loop-number-preserved : goal.loop-number-preserved
loop-number-preserved c =
    let T = c.args.task.now.task in
    let numbers = c.args.numbers.now in
    let place = c.loop-number.number-index in
    let step = c.in_ok-step.step in
    c.in_ok-push.ensures.ok ∙ ap (λ (plan : Plan). plan ++ step ∷ []) c.loop-number.invariant
    ∙ ap (λ (last : Plan). numbered_steps T (take place numbers) ++ last) (sym (numbered_one T (get_or numbers place 0) step c.in_ok-step.ensures))
    ∙ sym (numbered_more T numbers place c.loop-number-test.true)
