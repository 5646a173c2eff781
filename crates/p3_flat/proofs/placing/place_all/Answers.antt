use Rattle.std.proofs.Common.{◌<◌, ◌∙◌, ◌+◌, length, get_or, take, ap, sym, subst, refl, arith}
use Rattle.std.specs.List.{AllZip}
use Rattle.p3_flat.specs.Splitting.{IsPlaced}
use Rattle.p3_flat.proofs.PlacingLemmas.{conditions_longer, next_conditions, next_placed, too_many}
use Rattle.p3_flat.proofs.placing.place_all.Goals as goal

pub returns-then-len-gt-MOST_CONDITIONS : goal.returns-then-len-gt-MOST_CONDITIONS
returns-then-len-gt-MOST_CONDITIONS c =
    let within = subst (λ list. c.loop-change.change-index < length list) c.items-change-items.ensures c.loop-change-test.true in
    let item = c.change-item.is ∙ ap (λ list. get_or list c.loop-change.change-index c.change-item.result) c.items-change-items.ensures in
    let are = next_conditions c.args.effects.now c.loop-change.change-index c.change-item.result within item c.loop-change.conditions c.place_of.new.conditions c.loop-change.invariant.0 c.in_ok-place.ensures.forms in
    too_many c.args.effects.now (omega (arith, c.if-len-gt-MOST_CONDITIONS.true, c.len-in-loop-change.ensures, ap length are, conditions_longer c.args.effects.now (c.loop-change.change-index + 1)))

pub loop-change-preserved : goal.loop-change-preserved
loop-change-preserved c =
    let within = subst (λ list. c.loop-change.change-index < length list) c.items-change-items.ensures c.loop-change-test.true in
    let item = c.change-item.is ∙ ap (λ list. get_or list c.loop-change.change-index c.change-item.result) c.items-change-items.ensures in (
      next_conditions c.args.effects.now c.loop-change.change-index c.change-item.result within item c.loop-change.conditions c.place_of.new.conditions c.loop-change.invariant.0 c.in_ok-place.ensures.forms,
      omega (arith, c.if-len-gt-MOST_CONDITIONS.false, c.len-in-loop-change.ensures),
      subst (AllZip (IsPlaced c.place_of.new.conditions) (take (c.loop-change.change-index + 1) c.args.effects.now)) (sym c.in_ok-push.ensures.items)
          (next_placed c.args.effects.now c.loop-change.change-index c.change-item.result within item c.loop-change.conditions c.place_of.new.conditions c.loop-change.changes.items _ c.loop-change.invariant.2 c.in_ok-place.ensures.forms
          (record { atom = refl; add = refl; place = c.in_ok-place.ensures.place })),
    )
