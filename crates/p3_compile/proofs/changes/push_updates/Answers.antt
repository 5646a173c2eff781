use Rattle.std.proofs.Common.{◌≡◌, ◌∙◌, inl, inr, ◌+◌, take, get_or, refl, sym, ap, subst, arith}
use Rattle.std.proofs.lemmas.Bool.{cases_lt}
use Rattle.p3_compile.specs.Updated.{HasUpdate, HasUpdates}
use Rattle.p3_compile.proofs.UpdateLists.{begun, one_more, all_passed, idle_between, idle_behind, busy_there}
use Rattle.p3_regress.specs.Memory.{Regression}
use Rattle.p3_compile.proofs.changes.push_updates.Goals as goal
use Rattle.p3_compile.proofs.changes.push_updates.Goals.{then-place-next+in_ok-push_update, else-place-next}

pub loop-place-init : goal.loop-place-init
loop-place-init c = record {
  has = begun c.args.regressed.now.effects c.args.all.now.items;
  bound = omega arith;
  passed = λ index low. absurd (omega (arith, low));
  effects = refl;
}

pub loop-place-preserved : goal.loop-place-preserved
loop-place-preserved c =
    let monitors = c.args.monitors.now in
    let places = c.args.places.now in
    let place = get_or places c.loop-place.place-index 0 in
    let invariant = c.loop-place.invariant in
    elim c.if-place-next.branch [
      | then-place-next+in_ok-push_update w ↦
          let effects = c.args.regressed.now.effects in
          let within = c.requires.touched.within c.loop-place.place-index 0 c.loop-place-test.true in
          let monitor = w.index-monitors-place.result in
          let update = subst (λ step. HasUpdate step monitor c.loop-place.all.items w.push_update.new.all.items) invariant.effects w.in_ok-push_update.ensures.pushed in
          let next = w.next-is in
          record {
            has = subst (λ n. HasUpdates effects (take n monitors) c.args.all.now.items c.if-place-next.all.items) (sym w.next-is)
                (subst (λ all. HasUpdates effects (take (place + 1) monitors) c.args.all.now.items all.items) (sym w.all-is)
                (one_more effects monitors c.requires.apart c.args.all.now.items c.loop-place.all.items w.push_update.new.all.items c.loop-place.next place monitor w.if-place-next.true within w.index-monitors-place.is
                (busy_there effects monitors places c.requires.touched c.loop-place.place-index monitor c.loop-place-test.true w.index-monitors-place.is)
                (idle_between effects monitors places c.requires.touched c.loop-place.next c.loop-place.place-index invariant.passed monitor c.loop-place-test.true)
                invariant.has update));
            bound = omega (arith, next, within);
            passed = λ index low. elim (cases_lt index c.loop-place.place-index) [
              | inl early ↦ let p = invariant.passed index early in let t = w.if-place-next.true in omega (arith, next, p, t)
              | inr late ↦ let e : index ≡ c.loop-place.place-index = omega (arith, low, late) in let same = ap (λ n. get_or places n 0) e in omega (arith, next, same)
            ];
            effects = ap (λ (r : Regression). r.effects) w.regressed-is ∙ w.in_ok-push_update.ensures.extends.effects ∙ invariant.effects;
          }
      | else-place-next w ↦
          let next = w.next-is in
          record {
            has = subst (λ n. HasUpdates c.args.regressed.now.effects (take n monitors) c.args.all.now.items c.if-place-next.all.items) (sym w.next-is) (subst (λ all. HasUpdates c.args.regressed.now.effects (take c.loop-place.next monitors) c.args.all.now.items all.items) (sym w.all-is) invariant.has);
            bound = let b = invariant.bound in omega (arith, next, b);
            passed = λ index low. elim (cases_lt index c.loop-place.place-index) [
              | inl early ↦ let p = invariant.passed index early in omega (arith, next, p)
              | inr late ↦ let e : index ≡ c.loop-place.place-index = omega (arith, low, late) in let same = ap (λ n. get_or places n 0) e in let t = w.if-place-next.false in omega (arith, next, same, t)
            ];
            effects = ap (λ (r : Regression). r.effects) w.regressed-is ∙ invariant.effects;
          }
    ]

pub returns-clause-pushed : goal.returns-clause-pushed
returns-clause-pushed c = all_passed c.args.regressed.now.effects c.args.monitors.now c.requires.apart c.args.all.now.items c.loop-place.all.items c.loop-place.next c.loop-place.invariant.bound
    (idle_behind c.args.regressed.now.effects c.args.monitors.now c.args.places.now c.requires.touched c.loop-place.next c.loop-place.place-index c.loop-place.invariant.passed c.loop-place-test.false)
    c.loop-place.invariant.has
