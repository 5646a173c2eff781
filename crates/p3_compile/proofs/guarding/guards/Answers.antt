use Rattle.std.proofs.Common.{◌+◌, ◌∙◌, [], take, get_or, sym, ap, refl, subst}
use Rattle.p3_regress.specs.Memory.{Regression}
use Rattle.p3_compile.specs.Guarding.{HasGuards, HasOneGuard}
use Rattle.p3_compile.proofs.GuardLists.{all_passed, no_guards, one_more}
use Rattle.p3_compile.proofs.guarding.guards.Goals as goal
use Rattle.p3_compile.proofs.guarding.guards.Goals.{then-place-next+then-place-monitors+in_ok-push_guard, else-place-next}

pub loop-place-init : goal.loop-place-init
loop-place-init c = record {
  has = subst (HasGuards c.args.regressed.now.effects []) (sym c.new-guards.ensures.items) (no_guards c.args.regressed.now.effects []);
  effects = refl;
}

pub loop-place-preserved : goal.loop-place-preserved
loop-place-preserved c =
    let effects = c.args.regressed.now.effects in
    let monitors = c.args.monitors.now in
    let place = get_or c.args.places.now c.loop-place.place-index 0 in
    let invariant = c.loop-place.invariant in
    elim c.if-place-next.branch [
      | then-place-next+then-place-monitors+in_ok-push_guard w ↦
          let monitor = w.index-monitors-place.result in
          let one = subst (λ step. HasOneGuard step monitor c.loop-place.guards.items w.push_guard.new.guards.items) invariant.effects w.in_ok-push_guard.ensures.pushed in
          record {
            has = subst (λ n. HasGuards effects (take n monitors) c.if-place-next.guards.items) (sym w.next-is)
                (subst (λ guards. HasGuards effects (take (place + 1) monitors) guards.items) (sym w.guards-is)
                (one_more effects monitors c.loop-place.guards.items w.push_guard.new.guards.items c.loop-place.next place monitor w.if-place-next.true w.if-place-monitors.true w.index-monitors-place.is invariant.has one));
            effects = ap (λ (r : Regression). r.effects) w.regressed-is ∙ w.in_ok-push_guard.ensures.extends.effects ∙ invariant.effects;
          }
      | else-place-next w ↦
          record {
            has = subst (λ n. HasGuards effects (take n monitors) c.if-place-next.guards.items) (sym w.next-is)
                (subst (λ guards. HasGuards effects (take c.loop-place.next monitors) guards.items) (sym w.guards-is) invariant.has);
            effects = ap (λ (r : Regression). r.effects) w.regressed-is ∙ invariant.effects;
          }
    ]

pub returns : goal.returns
returns c = all_passed c.args.regressed.now.effects c.args.monitors.now c.loop-place.guards.items c.loop-place.next c.loop-place.invariant.has
