use Rattle.p3_scenes.specs.Answers.{IsBehind}
use Rattle.p3_scenes.proofs.answering.follow.Given as goal

-- the steps before the place are done
abbrev pub invariant-loop-place : goal.invariant-loop-place
invariant-loop-place l = IsBehind l.task l.steps l.place l.facts
