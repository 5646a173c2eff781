use Rattle.std.proofs.Common.{◌≡◌, ◌<◌, ◌∙◌, ◌+◌, false, length, get_or, take, ap, sym, subst, arith}
use Rattle.std.proofs.lemmas.List.Elements.{AllWithin-more}
use Rattle.p3_formula.specs.declared.target.TargetAction.{TargetAction}
use Rattle.p3_flat.specs.Conditions.{is_too_wide}
use Rattle.p3_flat.specs.Flattened.{AreFlattened}
use Rattle.p3_flat.specs.Splitting.{AreCopiesIf}
use Rattle.p3_flat.proofs.CopyLaws.{next_flattened}
use Rattle.p3_flat.proofs.ItemLemmas.{at_place, first_is, none_is}
use Rattle.p3_flat.proofs.flattening.all_copies.Goals as goal

pub returns-in-None-clause-fail : goal.returns-in-None-clause-fail
returns-in-None-clause-fail c =
    let within = subst (λ list. c.loop-place.place < length list) c.items-action-items.ensures c.loop-place-test.true in
    let item = c.action-item.is ∙ ap (λ list. get_or list c.loop-place.place c.action-item.result) c.items-action-items.ensures in
    first_is is_too_wide c.args.target.now.actions c.loop-place.place c.action-item.result within item c.loop-place.invariant.1 (subst (AreCopiesIf c.action-item.result) c.in-None.is c.in_ok-copies.ensures)

pub loop-place-preserved : goal.loop-place-preserved
loop-place-preserved c =
    let within = subst (λ list. c.loop-place.place < length list) c.items-action-items.ensures c.loop-place-test.true in
    let item = c.action-item.is ∙ ap (λ list. get_or list c.loop-place.place c.action-item.result) c.items-action-items.ensures in
    let both = subst (AreCopiesIf c.action-item.result) c.in-Some.is c.in_ok-copies.ensures in (
      subst (AreFlattened (take (c.loop-place.place + 1) c.args.target.now.actions)) (sym c.in_ok-push_all-in-Some.ensures)
          (next_flattened c.args.target.now.actions c.loop-place.place c.action-item.result within item c.loop-place.made.items c.in-Some.copies c.loop-place.invariant.0 both.1),
      AllWithin-more (λ (action : TargetAction). is_too_wide action ≡ false) c.args.target.now.actions 0 c.loop-place.place c.loop-place.invariant.1 (at_place (λ (action : TargetAction). is_too_wide action ≡ false) c.args.target.now.actions c.loop-place.place c.action-item.result within item both.0),
    )

pub returns-clause-within : goal.returns-clause-within
returns-clause-within c =
    none_is is_too_wide c.args.target.now.actions (λ k d low below. c.loop-place.invariant.1 k d low (omega (arith, below, ap length c.items-action-items.ensures, c.loop-place-test.false)))
