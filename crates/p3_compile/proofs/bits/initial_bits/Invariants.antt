use Rattle.std.proofs.Common.{◌≡◌, ◌++◌, false, replicate}
use Rattle.p3_compile.proofs.bits.initial_bits.Given as goal

-- one atom more for each turn
abbrev pub invariant-loop : goal.invariant-loop
invariant-loop l = l.bits.items ≡ l.initial.bits.items ++ replicate l.counter false
