use Rattle.std.proofs.Common.{◌≤◌, length, take}
use Rattle.p3_compile.specs.Monitored.{HasMonitors, soft_modals}
use Rattle.p3_compile.proofs.monitoring.monitors.Given as goal

-- the soft constraints passed have their monitors behind those of the hard ones
abbrev pub invariant-loop-soft : goal.invariant-loop-soft
invariant-loop-soft l = record {
  made : HasMonitors l.task.initial (soft_modals (take l.soft-index l.task.soft)) l.initial.names l.names l.initial.monitors l.monitors;
  behind : length l.initial.names ≤ length l.names;
  first : length l.task.initial ≤ length l.initial.names;
}
