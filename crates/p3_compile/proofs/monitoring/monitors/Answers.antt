use Rattle.std.proofs.Common.{◌<◌, ◌≤◌, ◌∙◌, length, get_or, ap, subst, arith}
use Rattle.std.specs.Prelude.{codes}
use Rattle.std.proofs.lemmas.List.{take_all}
use Rattle.p3_compile.specs.Monitored.{HasMonitors, monitor_atoms, soft_modals}
use Rattle.p3_compile.proofs.NumberedNames.{length-named}
use Rattle.p3_compile.proofs.MonitoredLists.{none_yet, soft_next, parts_below}
use Rattle.p3_compile.proofs.monitoring.monitors.Goals as goal

pub loop-soft-init : goal.loop-soft-init
loop-soft-init c =
    let more = c.in_ok-push_monitors.ensures in
    let counted = ap length more.names ∙ length-named (codes "m") c.args.names.now (length c.args.task.now.initial) (monitor_atoms c.args.task.now.hard) in
    let behind = c.requires.behind in
    record { made = none_yet c.args.task.now.initial c.push_monitors.new.names c.push_monitors.new.monitors; behind = omega arith; first = omega (arith, counted, behind) }

pub push_monitors-requires-in-loop-soft-clause-below : goal.push_monitors-requires-in-loop-soft-clause-below
push_monitors-requires-in-loop-soft-clause-below c =
    parts_below (length c.args.task.now.initial) c.args.task.now.soft c.loop-soft.soft-index c.soft-item.result c.requires.soft
    (subst (λ softs. c.loop-soft.soft-index < length softs) c.items-soft-items.ensures c.loop-soft-test.true)
    (c.soft-item.is ∙ ap (λ softs. get_or softs c.loop-soft.soft-index c.soft-item.result) c.items-soft-items.ensures)

pub push_monitors-requires-in-loop-soft-clause-behind : goal.push_monitors-requires-in-loop-soft-clause-behind
push_monitors-requires-in-loop-soft-clause-behind c = let f = c.loop-soft.invariant.first in let b = c.loop-soft.invariant.behind in omega (arith, f, b)

pub loop-soft-preserved : goal.loop-soft-preserved
loop-soft-preserved c =
    let within = subst (λ softs. c.loop-soft.soft-index < length softs) c.items-soft-items.ensures c.loop-soft-test.true in
    let at = c.soft-item.is ∙ ap (λ softs. get_or softs c.loop-soft.soft-index c.soft-item.result) c.items-soft-items.ensures in
    let more = c.in_ok-push_monitors-2.ensures in
    record {
      made = soft_next c.args.task.now.initial c.push_monitors.new.names c.loop-soft.names c.push_monitors-in-loop-soft.new.names c.push_monitors.new.monitors c.loop-soft.monitors c.loop-soft.invariant.first c.args.task.now.soft c.loop-soft.soft-index c.soft-item.result
          c.push_monitors-in-loop-soft.new.monitors within at c.loop-soft.invariant.made more;
      behind = let b = c.loop-soft.invariant.behind in let counted = ap length more.names ∙ length-named (codes "m") c.loop-soft.names (length c.args.task.now.initial) (monitor_atoms c.soft-item.result.parts) in omega (arith, b, counted);
      first = c.loop-soft.invariant.first;
    }

pub returns : goal.returns
returns c = record {
  between = c.push_monitors.new.names;
  front = c.push_monitors.new.monitors;
  hard = subst (λ before. HasMonitors c.args.task.now.initial c.args.task.now.hard c.args.names.now c.push_monitors.new.names before c.push_monitors.new.monitors) c.new-monitors.ensures c.in_ok-push_monitors.ensures;
  soft = subst (λ softs. HasMonitors c.args.task.now.initial (soft_modals softs) c.push_monitors.new.names c.loop-soft.names c.push_monitors.new.monitors c.loop-soft.monitors)
      (take_all c.loop-soft.soft-index c.args.task.now.soft (subst (λ softs. length softs ≤ c.loop-soft.soft-index) c.items-soft-items.ensures c.loop-soft-test.false)) c.loop-soft.invariant.made;
}
