use Rattle.std.proofs.Common.{◌≡◌, take}
use Rattle.p3_lift.specs.Lifting.{numbered_steps}
use Rattle.p3_lift.proofs.steps.plan_of.Given as goal

-- the steps of the numbers passed are there
abbrev pub invariant-loop-number : goal.invariant-loop-number
invariant-loop-number l = l.plan ≡ numbered_steps l.task.task (take l.number-index l.numbers)
