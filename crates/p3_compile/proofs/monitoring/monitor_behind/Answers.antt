use Rattle.std.proofs.Common.{◌≤◌, length, sym, subst}
use Rattle.p3_compile.proofs.MonitoredLists.{below_greater}
use Rattle.p3_compile.proofs.monitoring.monitor_behind.Goals as goal

pub monitor-requires-clause-below : goal.monitor-requires-clause-below
monitor-requires-clause-below c = below_greater (length c.args.start.now) c.len-base.result c.args.modal.now (subst (λ n. length c.args.start.now ≤ n) (sym c.len-base.ensures) c.requires.behind) c.requires.below
