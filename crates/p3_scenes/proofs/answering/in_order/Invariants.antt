use Rattle.std.proofs.Common.{◌≡◌, map, take}
use Rattle.p3_scenes.specs.Answers.{AreAnswers}
use Rattle.p3_scenes.specs.Questions.{answer_to}
use Rattle.p3_scenes.proofs.answering.in_order.Given as goal

abbrev pub invariant-loop-place : goal.invariant-loop-place
invariant-loop-place l = record {
  found : AreAnswers l.task l.steps l.questions l.found.items;
  answers : l.answers ≡ map (answer_to l.task l.steps) (take l.place l.questions);
}
