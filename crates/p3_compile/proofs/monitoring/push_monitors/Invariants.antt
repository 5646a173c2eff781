use Rattle.std.proofs.Common.{◌≤◌, length, take}
use Rattle.p3_compile.specs.Monitored.{HasMonitors}
use Rattle.p3_compile.proofs.monitoring.push_monitors.Given as goal

-- the constraints passed have their monitors
abbrev pub invariant-loop-modal : goal.invariant-loop-modal
invariant-loop-modal l = record { made : HasMonitors l.start (take l.modal-index l.modals) l.fn.names l.names l.fn.monitors l.monitors; behind : length l.fn.names ≤ length l.names }
