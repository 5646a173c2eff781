use Rattle.std.proofs.Common.{◌<◌, ◌+◌, ◌∙◌, length, take, get_or, sym, ap, subst, arith}
use Rattle.std.specs.Prelude.{codes}
use Rattle.p3_formula.specs.Kept.{atom_count}
use Rattle.p3_compile.specs.Monitored.{HasMonitors}
use Rattle.p3_compile.proofs.NumberedNames.{length-named}
use Rattle.p3_compile.proofs.MonitoredLists.{monitors_next, modal_below}
use Rattle.p3_compile.proofs.monitoring.push_monitors.Goals as goal

pub monitor_behind-requires-clause-below : goal.monitor_behind-requires-clause-below
monitor_behind-requires-clause-below c =
    modal_below (length c.args.start.now) c.args.modals.now c.loop-modal.modal-index c.modal-item.result c.requires.below
    (subst (λ modals. c.loop-modal.modal-index < length modals) c.items-modal-items.ensures c.loop-modal-test.true)
    (c.modal-item.is ∙ ap (λ modals. get_or modals c.loop-modal.modal-index c.modal-item.result) c.items-modal-items.ensures)

pub loop-modal-preserved : goal.loop-modal-preserved
loop-modal-preserved c =
    let within = subst (λ modals. c.loop-modal.modal-index < length modals) c.items-modal-items.ensures c.loop-modal-test.true in
    let at = c.modal-item.is ∙ ap (λ modals. get_or modals c.loop-modal.modal-index c.modal-item.result) c.items-modal-items.ensures in
    let has = c.in_ok-monitor_behind.ensures in
    record {
      made = subst (HasMonitors c.args.start.now (take (c.loop-modal.modal-index + 1) c.args.modals.now) c.args.names.now c.monitor_behind.new.names c.args.monitors.now) (sym c.in_ok-push.ensures.ok)
          (monitors_next c.args.start.now c.args.names.now c.loop-modal.names c.monitor_behind.new.names c.args.monitors.now c.loop-modal.monitors c.requires.behind c.args.modals.now c.loop-modal.modal-index c.modal-item.result c.in_ok-monitor_behind.field-0 within at
          c.loop-modal.invariant.made has);
      behind = let b = c.loop-modal.invariant.behind in let more = ap length has.names ∙ length-named (codes "m") c.loop-modal.names (length c.args.start.now) (atom_count c.modal-item.result) in omega (arith, b, more);
    }
