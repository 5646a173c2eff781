use Rattle.std.proofs.Common.{take}
use Rattle.p3_steps.specs.Costs.{HasValues}
use Rattle.p3_steps.proofs.costs.table_of.Given as goal

abbrev pub invariant-loop-value : goal.invariant-loop-value
invariant-loop-value l = HasValues l.places (take l.value-index l.values) l.table
