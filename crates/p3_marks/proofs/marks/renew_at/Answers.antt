use Rattle.std.proofs.Common.{◌∙◌, length, sym, ap, subst}
use Rattle.p3_formula.specs.Modals.{IsModalBelow}
use Rattle.p3_formula.specs.GroundModal.{GroundModal}
use Rattle.p3_marks.specs.Marked.{CanMark, put_renewed}
use Rattle.p3_marks.proofs.FollowLaws.{can_still, reader_below}
use Rattle.p3_marks.proofs.marks.renew_at.Goals as goal

pub renew_one-requires-clause-below : goal.renew_one-requires-clause-below
renew_one-requires-clause-below c =
    subst (IsModalBelow (length c.args.state.now)) (sym c.modal_at-modal.ensures)
    (reader_below c.args.task.now c.args.state.now c.args.groups.now.items c.requires.can c.args.reader c.requires.reader c.requires.bits)

pub returns-clause-can : goal.returns-clause-can
returns-clause-can c =
    let groups = c.args.groups.now.items in
    subst (CanMark c.args.task.now) (sym (c.renew_one.ensures ∙ ap (λ (modal : GroundModal). put_renewed modal c.args.next c.args.state.now groups c.args.reader) c.modal_at-modal.ensures))
    (can_still c.args.task.now c.args.state.now groups c.requires.can c.args.reader c.requires.reader c.args.next)
