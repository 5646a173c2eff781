use Rattle.std.proofs.Common.{◌≡◌, take}
use Rattle.p3_plans.specs.Layout.{plan_layout}
use Rattle.p3_lift.specs.Lifting.{numbered_steps}
use Rattle.p3_cli.proofs.lifting.lifted_text.Given as goal

-- the lines of the numbers passed are there
abbrev pub invariant-loop-number : goal.invariant-loop-number
invariant-loop-number l = l.text.items ≡ plan_layout (numbered_steps l.checked.task (take l.number-index l.numbers))
