use Rattle.std.proofs.Common.{◌∙◌, List, sym, ap, subst}
use Rattle.p3_run.proofs.PendingLaws.{taken_more}
use Rattle.p3_marks.specs.Marked.{CanMark}
use Rattle.p3_marks.specs.declared.mark.Mark.{Mark}
use Rattle.p3_marks.proofs.FollowLaws.{follow_more}
use Rattle.p3_marks.proofs.PendingLaws.{followed_already}
use Rattle.p3_marks.proofs.marks.follow_all.Goals.{then-take, else-take}
use Rattle.p3_marks.proofs.marks.follow_all.Goals as goal

pub loop-place-preserved : goal.loop-place-preserved
loop-place-preserved c =
    let G = c.args.task.now in
    let state = c.args.state.now in
    let readers = c.args.readers.now in
    let effects = c.args.effects.now in
    let place = c.loop-place.place in
    let within = c.loop-place-test.true in
    let one = c.index-effects-place.result in
    let old = c.args.groups.now.items in
    let now = c.loop-place.groups.items in
    let invariant = c.loop-place.invariant in
    let taken = taken_more effects place one within c.loop-place.pending c.take.new.self c.take.ensures.rest invariant.taken in
    elim c.if-take.branch [
      | then-take w ↦ record {
        groups = ap (λ groups. groups.items) w.groups-is
            ∙ w.follow_atom.ensures.groups
            ∙ follow_more readers effects place within one G c.args.next state old now invariant.groups;
        can = subst (λ (groups : List (List Mark)). CanMark G groups) (sym (ap (λ groups. groups.items) w.groups-is)) w.follow_atom.ensures.can;
        taken = taken;
      }
      | else-take w ↦ record {
        groups = ap (λ groups. groups.items) w.groups-is
            ∙ followed_already G readers c.requires.readers effects place within one c.args.next state old now c.requires.can.shape
            (invariant.taken place one within (sym c.take.ensures.answer ∙ w.if-take.false)) invariant.groups;
        can = subst (λ (groups : List (List Mark)). CanMark G groups) (sym (ap (λ groups. groups.items) w.groups-is)) invariant.can;
        taken = taken;
      }
    ]
