use Rattle.std.proofs.Common.{◌≡◌, List, map, take}
use Rattle.std.specs.Prelude.{flat_map}
use Rattle.p3_numbers.specs.declared.task.NumberedTask.{NumberedTask}
use Rattle.p3_reasons.specs.declared.visited.PlacedStep.{PlacedStep}
use Rattle.p3_scenes.specs.Questions.{answer_to}
use Rattle.p3_unmet.specs.Sketches.{decisions_of, seen_draft}
use Rattle.p3_unmet.proofs.telling.questions.Given as goal

abbrev pub invariant-loop-draft : goal.invariant-loop-draft
invariant-loop-draft l = (X : NumberedTask) (steps : List PlacedStep) → map (answer_to X steps) l.questions ≡ flat_map (decisions_of X steps) (map seen_draft (take l.draft-index l.drafts))
