use Rattle.std.proofs.Common.{◌≡◌, ◌<◌, ℕ, length, get_or}
use Rattle.p3_monitors.specs.FormIndex.{IndexesForms}
use Rattle.p3_monitors.specs.declared.forms.FormsByAtom.{FormsByAtom}
use Rattle.p3_monitors.specs.declared.monitoring.Monitor.{Monitor}
use Rattle.p3_compile.proofs.monitor_readers.all_by_atom.Given as goal

-- the monitors passed have their forms by atom
abbrev pub invariant-loop-monitor : goal.invariant-loop-monitor
invariant-loop-monitor l = record {
  count : length l.all.items ≡ l.monitor-index;
  each : (place : ℕ) (monitor : Monitor) (one : FormsByAtom) → place < l.monitor-index → IndexesForms (get_or l.monitors place monitor).modal (get_or l.all.items place one);
}
