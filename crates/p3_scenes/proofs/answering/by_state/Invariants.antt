use Rattle.std.proofs.Common.{◌≡◌, ◌++◌, drop}
use Rattle.p3_scenes.specs.Answers.{places_from}
use Rattle.p3_scenes.proofs.answering.by_state.Given as goal

abbrev pub invariant-loop-place : goal.invariant-loop-place
invariant-loop-place l = l.pairs.items ++ places_from l.place (drop l.place l.questions) ≡ places_from 0 l.questions
