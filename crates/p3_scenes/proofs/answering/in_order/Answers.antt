use Rattle.std.proofs.Common.{◌∙◌, ◌∷◌, [], ◌++◌, map, take, sym, ap, subst}
use Rattle.std.proofs.lemmas.List.{map-append}
use Rattle.p3_formula.proofs.NodeLemmas.{take-next}
use Rattle.p3_scenes.specs.Answers.{AreAnswers}
use Rattle.p3_scenes.specs.Questions.{answer_to}
use Rattle.p3_scenes.proofs.AnswerLemmas.{answers-known, answers-left, get-at}
use Rattle.p3_scenes.proofs.answering.in_order.Goals as goal

pub answer-requires : goal.answer-requires
answer-requires c =
    let question = c.index-questions-place.result in
    answers-known c.args.task.now c.args.steps.now c.args.questions.now c.loop-place.found.items c.loop-place.place c.taken-known.result question c.loop-place.invariant.found
    (get-at c.args.questions.now c.loop-place.place question c.loop-place-test.true c.index-questions-place.is) c.taken-known.ensures.answer

pub loop-place-preserved : goal.loop-place-preserved
loop-place-preserved c =
    let X = c.args.task.now in
    let steps = c.args.steps.now in
    let questions = c.args.questions.now in
    let k = c.loop-place.place in
    let question = c.index-questions-place.result in
    record {
      found = subst (AreAnswers X steps questions) (sym c.taken-known.ensures.left) (answers-left X steps questions c.loop-place.found.items k c.loop-place.invariant.found);
      answers = c.in_ok-push.ensures.ok ∙ (λ i. c.loop-place.invariant.answers i ++ c.in_ok-decision.ensures i ∷ [])
          ∙ sym (map-append (answer_to X steps) (take k questions) (question ∷ []))
          ∙ ap (map (answer_to X steps)) (take-next questions k question question c.loop-place-test.true c.index-questions-place.is);
    }
