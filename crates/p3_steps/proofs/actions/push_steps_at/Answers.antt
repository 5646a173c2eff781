use Rattle.std.proofs.Common.{◌≡◌, ◌∙◌, arith, refl, ap}
use Rattle.p3_numbers.specs.Choices.{choice_count}
use Rattle.p3_expansion.proofs.WalkLemmas.{pushes-none}
use Rattle.p3_steps.specs.Steps.{StepsAreMade}
use Rattle.p3_steps.proofs.StepLemmas.{steps-more, steps-at}
use Rattle.p3_steps.proofs.actions.push_steps_at.Goals as goal

pub loop-choice-init : goal.loop-choice-init
loop-choice-init c = pushes-none (StepsAreMade c.args.task.now c.args.statics.now c.args.costs.now.places) _ c.args.work.now c.args.made.now

pub place_choice-requires-clause-within : goal.place_choice-requires-clause-within
place_choice-requires-clause-within c =
    let N = c.args.task.now.numbers in
    let counted : c.in_ok-count.count ≡ choice_count N c.args.action.now.ranges = c.in_ok-count.ensures ∙ ap (choice_count N) c.items-ranges.ensures in
    let below = c.requires.within c.loop-choice.choice-index 0 c.loop-choice-test.true in
    omega (arith, below, counted)

pub step_at-requires-clause-few : goal.step_at-requires-clause-few
step_at-requires-clause-few c =
    let below = c.requires.within c.loop-choice.choice-index 0 c.loop-choice-test.true in
    omega (arith, below, c.requires.few)

pub loop-choice-preserved : goal.loop-choice-preserved
loop-choice-preserved c =
    steps-more c.args.task.now c.args.statics.now c.args.costs.now.places c.args.action.now c.args.first c.args.choices.now c.loop-choice.choice-index _
    c.args.work.now c.loop-choice.work c.step_at.new.work c.args.made.now c.loop-choice.made c.push.new.self c.in_ok-step.step
    c.loop-choice-test.true refl c.loop-choice.invariant c.in_ok-step.ensures c.in_ok-push.ensures.ok

pub returns : goal.returns
returns c =
    steps-at c.args.task.now c.args.statics.now c.args.costs.now.places c.args.action.now c.args.first c.args.choices.now c.loop-choice.choice-index
    c.args.work.now c.loop-choice.work c.args.made.now c.loop-choice.made c.loop-choice-test.false c.loop-choice.invariant
