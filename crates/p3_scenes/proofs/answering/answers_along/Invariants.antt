use Rattle.p3_scenes.specs.Answers.{AreAnswers, IsBehind}
use Rattle.p3_scenes.proofs.answering.answers_along.Given as goal

abbrev pub invariant-loop-pair : goal.invariant-loop-pair
invariant-loop-pair l = record {
  behind : IsBehind l.task l.steps l.done l.facts;
  answers : AreAnswers l.task l.steps l.questions l.found.items;
}
