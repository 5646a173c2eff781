use Rattle.std.proofs.Common.{sym, subst}
use Rattle.p3_scenes.specs.Answers.{AreAnswers}
use Rattle.p3_scenes.proofs.AnswerLemmas.{answered-behind, answers-noted, get-at}
use Rattle.p3_scenes.proofs.answering.answer_next.Goals as goal

pub returns-clause-answers : goal.returns-clause-answers
returns-clause-answers c =
    let X = c.args.task.now in
    let steps = c.args.steps.now in
    let questions = c.args.questions.now in
    let question = c.in-Some.question.now in
    let decision = c.in_ok-decision.decision in
    subst (AreAnswers X steps questions) (sym c.note.ensures)
    (answers-noted X steps questions c.args.found.now.items c.args.place decision question c.requires.answers (get-at questions c.args.place question c.in-Some.ensures.lookup.3.0 c.in-Some.ensures.lookup.1)
    (answered-behind X steps c.follow.new.facts question decision c.in_ok-follow.ensures c.in_ok-decision.ensures))
