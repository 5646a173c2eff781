use Rattle.std.proofs.Common.{take}
use Rattle.std.specs.List.{AllZip}
use Rattle.p3_task.specs.StepNumbers.{HasNumber}
use Rattle.p3_task.specs.declared.task.Step.{Step}
use Rattle.p3_reasons.specs.Visits.{IsPlaced}
use Rattle.p3_reasons.specs.declared.visited.PlacedStep.{PlacedStep}
use Rattle.std.specs.Prelude.{ℕ}
use Rattle.p3_scenes.proofs.placing.placed_steps.Given as goal

-- the steps of the numbers passed are there
abbrev pub invariant-loop-number : goal.invariant-loop-number
invariant-loop-number l = AllZip (λ (number : ℕ) (placed : PlacedStep). (step : Step) → HasNumber l.checked.task step number → IsPlaced l.checked.task l.checked.numbered step placed) (take l.number-index l.numbers) l.steps
