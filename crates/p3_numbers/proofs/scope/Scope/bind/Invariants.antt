use Rattle.std.proofs.Common.{◌≡◌, ◌++◌, take}
use Rattle.p3_numbers.proofs.scope.Scope.bind.Given as goal

abbrev pub invariant-loop-variable : goal.invariant-loop-variable
invariant-loop-variable l = l.self ≡ l.fn.self ++ take l.variable-index l.variables
