use Rattle.std.proofs.Common.{◌≡◌, ◌++◌, map, take}
use Rattle.p3_monitors.specs.declared.monitoring.Monitor.{Monitor}
use Rattle.p3_compile.proofs.ending.accepting.Given as goal

-- the monitors passed accept
abbrev pub invariant-loop-monitor : goal.invariant-loop-monitor
invariant-loop-monitor l = l.all ≡ l.fn.parts ++ map (λ (monitor : Monitor). monitor.accept) (take l.monitor-index l.monitors)
