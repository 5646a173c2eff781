use Rattle.std.proofs.Common.{◌∙◌, sym, ap}
use Rattle.p3_run.proofs.ChangeLaws.{follow_more}
use Rattle.p3_run.proofs.PendingLaws.{can_follow_still, followed_already, taken_more}
use Rattle.p3_run.proofs.changing.follow.Goals.{then-take, else-take}
use Rattle.p3_run.proofs.changing.follow.Goals as goal

pub loop-place-preserved : goal.loop-place-preserved
loop-place-preserved c =
    let G = c.args.task.now in
    let by_name = c.args.by_name.now in
    let state = c.args.state.now in
    let readers = c.args.readers.now in
    let effects = c.args.effects.now in
    let place = c.loop-place.place in
    let within = c.loop-place-test.true in
    let one = c.index-effects-place.result in
    let old = c.args.groups.now.items in
    let now = c.loop-place.groups.items in
    let invariant = c.loop-place.invariant in
    let taken = taken_more effects place one within c.loop-place.pending c.take.new.self c.take.ensures.rest invariant.taken in
    elim c.if-take.branch [
      | then-take w ↦ record {
        groups = λ before are. ap (λ groups. groups.items) w.groups-is
            ∙ w.follow_atom.ensures.groups
            ∙ follow_more before effects place within one readers state G old now c.args.all.now _ are (invariant.groups before are);
        can = can_follow_still G by_name state _ _ _ _ (ap (λ groups. groups.items) w.groups-is) w.tally-is w.follow_atom.ensures.can;
        taken = taken;
      }
      | else-take w ↦ record {
        groups = λ before are. ap (λ groups. groups.items) w.groups-is
            ∙ followed_already G readers c.requires.readers before state effects place within one old now c.requires.can.shape
            (invariant.taken place one within (sym c.take.ensures.answer ∙ w.if-take.false))
            (invariant.groups before are);
        can = can_follow_still G by_name state _ _ _ _ (ap (λ groups. groups.items) w.groups-is) w.tally-is invariant.can;
        taken = taken;
      }
    ]
