use Rattle.std.proofs.Common.{◌≡◌, take, None}
use Rattle.std.specs.Prelude.{fold, flat_map}
use Rattle.p3_task.specs.Offences.{total_cost_with_parameters}
use Rattle.p3_resolve.specs.Spots.{step}
use Rattle.p3_resolve.proofs.whole.total_costs_noted.Given as goal

abbrev pub invariant-loop-header : goal.invariant-loop-header
invariant-loop-header l = l.least ≡ fold step None (flat_map total_cost_with_parameters (take l.header-index l.functions))
