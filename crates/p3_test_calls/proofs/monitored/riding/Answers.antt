use Rattle.std.proofs.Common.{refl, subst, sym}
use Rattle.p3_formula.specs.Kept.{is_own}
use Rattle.p3_formula.specs.declared.form.Form.TheVariants.{Atom}
use Rattle.p3_base.specs.declared.operator.Operator.TheVariants.{Sometime}
use Rattle.p3_monitors.specs.KeepsOn.{HasNone}
use Rattle.p3_test_calls.proofs.monitored.riding.Goals as goal

pub effects-effects-requires : goal.effects-effects-requires
effects-effects-requires c =
    let monitor = c.in_ok-monitor.monitor in
    let step = c.in_ok-step.step in
    record {
      apart =
          subst (λ base. HasNone (is_own base monitor.modal) step) (sym c.in_ok-monitor.ensures.base)
          (subst (λ modal. HasNone (is_own 2 modal) step) (sym c.in_ok-monitor.ensures.modal) (subst (HasNone (is_own 2 (Sometime (Atom 0)))) (sym c.in_ok-step.ensures) refl));
    }
