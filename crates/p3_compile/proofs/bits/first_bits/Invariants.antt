use Rattle.std.proofs.Common.{◌≡◌, ◌++◌, take}
use Rattle.std.specs.List.{flat_map}
use Rattle.p3_monitors.specs.declared.monitoring.Monitor.{Monitor}
use Rattle.p3_compile.proofs.bits.first_bits.Given as goal

-- the bits passed stand there
abbrev pub invariant-own : goal.invariant-own
invariant-own l = l.bits.items ≡ take l.atom l.start

-- so do those of the monitors passed
abbrev pub invariant-watched : goal.invariant-watched
invariant-watched l = l.bits.items ≡ l.start ++ flat_map (λ (monitor : Monitor). monitor.initial) (take l.monitor-index l.monitors)
