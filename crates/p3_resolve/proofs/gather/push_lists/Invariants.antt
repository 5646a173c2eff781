use Rattle.std.proofs.Common.{◌≡◌, ◌++◌, take}
use Rattle.p3_resolve.specs.Listed.{lists_in, types_of}
use Rattle.p3_resolve.proofs.gather.push_lists.Given as goal

abbrev pub invariant-loop-variable : goal.invariant-loop-variable
invariant-loop-variable l = lists_in l.found.items ≡ lists_in l.fn.found.items ++ types_of (take l.variable-index l.variables)
