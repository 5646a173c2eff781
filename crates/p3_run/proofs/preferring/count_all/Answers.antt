use Rattle.std.proofs.Common.{◌∙◌, ◌+◌, ◌-◌, ◌≤◌, length, sym, subst, arith}
use Rattle.std.proofs.lemmas.List.Sums.{fold_more}
use Rattle.p3_formula.specs.Weighted.{HasNameBelow}
use Rattle.p3_formula.specs.declared.modal.GroundPref.{GroundPref}
use Rattle.p3_run.specs.Steps.{added_if, HasRoom}
use Rattle.p3_run.proofs.RoomLaws.{room_added_if, less_room}
use Rattle.p3_run.proofs.TallyLaws.{small_items}
use Rattle.p3_run.proofs.preferring.count_all.Goals as goal

pub loop-pref-preserved : goal.loop-pref-preserved
loop-pref-preserved c =
    let by_name = c.args.by_name.now in
    let state = c.args.state.now in
    let prefs = c.args.prefs.now in
    let index = c.loop-pref.pref-index in
    let pref : GroundPref = c.pref-item.result in
    let small = small_items by_name c.type_inv.by_name in
    let left = length prefs - (index + 1) in
    let below : HasNameBelow (length by_name) pref.name = subst (λ (p : GroundPref). HasNameBelow (length by_name) p.name) (sym c.pref-item.is) (c.requires.named index pref c.loop-pref-test.true) in
    let le : left + 1 ≤ length prefs - index = omega (arith, c.loop-pref-test.true) in
    record {
      are =
          c.count_if.ensures
          ∙ (λ i. added_if state by_name (c.loop-pref.invariant.are i) (c.pref-item.is i))
          ∙ sym (fold_more (added_if state by_name) c.args.tally.now prefs index pref c.loop-pref-test.true);
      room =
          subst (HasRoom by_name left) (sym c.count_if.ensures)
          (room_added_if by_name small left state pref c.loop-pref.tally below (less_room by_name small (left + 1) (length prefs - index) c.loop-pref.tally le c.loop-pref.invariant.room));
    }
