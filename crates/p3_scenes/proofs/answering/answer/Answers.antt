use Rattle.p3_scenes.proofs.AnswerLemmas.{answered-behind}
use Rattle.p3_scenes.proofs.answering.answer.Goals as goal

pub returns : goal.returns
returns c = answered-behind c.args.task.now c.args.steps.now c.follow.new.facts c.args.question.now c.in_ok-decision.decision c.in_ok-follow.ensures c.in_ok-decision.ensures
