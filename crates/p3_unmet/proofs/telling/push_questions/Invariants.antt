use Rattle.std.proofs.Common.{◌≡◌, List, ◌++◌, map, take}
use Rattle.p3_numbers.specs.declared.task.NumberedTask.{NumberedTask}
use Rattle.p3_reasons.specs.declared.visited.PlacedStep.{PlacedStep}
use Rattle.p3_scenes.specs.Questions.{answer_to}
use Rattle.p3_unmet.specs.Sketches.{decision_in, seen_inquiry}
use Rattle.p3_unmet.proofs.telling.push_questions.Given as goal

abbrev pub invariant-loop-inquiry : goal.invariant-loop-inquiry
invariant-loop-inquiry l = (X : NumberedTask) (steps : List PlacedStep) → map (answer_to X steps) l.questions ≡ map (answer_to X steps) l.fn.questions ++ map (decision_in X steps l.draft.bindings.objects) (map seen_inquiry (take l.inquiry-index l.draft.inquiries))
