use Rattle.p3_scenes.proofs.AnswerLemmas.{behind-more}
use Rattle.p3_scenes.proofs.answering.follow.Goals as goal

pub loop-place-preserved : goal.loop-place-preserved
loop-place-preserved c =
    behind-more c.args.task.now c.args.steps.now c.loop-place.place c.in-Some.step.now c.loop-place.facts c.step.new.self
    c.in-Some.ensures.lookup.3.0 c.in-Some.ensures.lookup.1 c.loop-place.invariant c.in_ok-step-in-Some.ensures
