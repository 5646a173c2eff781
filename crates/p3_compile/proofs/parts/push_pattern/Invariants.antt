use Rattle.std.proofs.Common.{◌≡◌, ◌++◌, take}
use Rattle.p3_compile.proofs.parts.push_pattern.Given as goal
use Rattle.p3_simulation.specs.Naming.{pattern}

-- the digits passed are written
abbrev pub invariant-loop-one : goal.invariant-loop-one
invariant-loop-one l = l.text.items ≡ l.fn.text.items ++ pattern (take l.one-index l.violated)
