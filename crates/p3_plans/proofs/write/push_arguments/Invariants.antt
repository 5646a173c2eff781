use Rattle.std.proofs.Common.{◌≡◌, ◌++◌, take}
use Rattle.std.specs.List.{flat_map}
use Rattle.p3_plans.specs.Layout as layout
use Rattle.p3_plans.proofs.write.push_arguments.Given as goal

abbrev pub invariant-loop-argument : goal.invariant-loop-argument
invariant-loop-argument l = l.out.items ≡ l.fn.out.items ++ flat_map layout.argument_layout (take l.argument-index l.arguments)
