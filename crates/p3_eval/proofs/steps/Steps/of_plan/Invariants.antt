use Rattle.std.proofs.Common.{take}
use Rattle.p3_ground.specs.PlansByNumber.{AreNumbers}
use Rattle.p3_eval.proofs.steps.Steps.of_plan.Given as goal

abbrev pub invariant-loop-step : goal.invariant-loop-step
invariant-loop-step l = AreNumbers l.task.task (take l.step-index l.plan) l.numbers.items
