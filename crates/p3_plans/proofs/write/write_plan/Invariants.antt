use Rattle.std.proofs.Common.{◌≡◌, take}
use Rattle.std.specs.List.{flat_map}
use Rattle.p3_plans.specs.Layout as layout
use Rattle.p3_plans.proofs.write.write_plan.Given as goal

abbrev pub invariant-loop-step : goal.invariant-loop-step
invariant-loop-step l = l.out.items ≡ flat_map layout.step_layout (take l.step-index l.plan)
