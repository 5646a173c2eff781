use Rattle.std.proofs.Common.{◌≡◌, ◌∙◌, List, Option, ℕ, length, sym, ap, subst}
use Rattle.p3_formula.specs.Modals.{IsModalBelow}
use Rattle.p3_formula.specs.GroundModal.{GroundModal}
use Rattle.p3_run.specs.Groups.{Watch, is_met, modal_at, watch_at, later, put_renewed, renewed_at, CanRenew}
use Rattle.p3_run.specs.Tallies.{Counted, recounted, CanAdd}
use Rattle.p3_run.proofs.RenewLaws.{reader_below, add_fits, renews}
use Rattle.p3_run.proofs.TallyLaws.{small_items}
use Rattle.p3_run.proofs.groups.renew_at.Goals as goal

pub turned-turn-requires-clause-below : goal.turned-turn-requires-clause-below
turned-turn-requires-clause-below c =
    subst (IsModalBelow (length c.args.state.now)) (sym c.modal_at-modal.ensures)
    (reader_below c.args.task.now c.args.by_name.now c.args.state.now c.args.groups.now.items c.args.tally.now c.requires.can c.args.reader c.requires.reader)

pub recount-requires-clause-more : goal.recount-requires-clause-more
recount-requires-clause-more c =
    let G = c.args.task.now in
    let by_name = c.args.by_name.now in
    let state = c.args.state.now in
    let watches = c.args.groups.now.items in
    let tally = c.args.tally.now in
    let reader = c.args.reader in
    let small = small_items by_name c.type_inv.by_name in
    λ was is.
    subst (λ (name : Option ℕ). CanAdd by_name name tally) (sym c.turned-turn.ensures.name)
    (add_fits G by_name state watches tally c.requires.can reader c.requires.reader small
    (sym c.turned-turn.ensures.was ∙ was)
    (ap (λ (modal : GroundModal). is_met (later modal state watches reader).stages) (sym c.modal_at-modal.ensures) ∙ sym c.turned-turn.ensures.is ∙ is))

pub returns-clause-can : goal.returns-clause-can
returns-clause-can c =
    let G = c.args.task.now in
    let by_name = c.args.by_name.now in
    let state = c.args.state.now in
    let watches = c.args.groups.now.items in
    let tally = c.args.tally.now in
    let reader = c.args.reader in
    let modal_is = c.modal_at-modal.ensures in
    let is_is = c.turned-turn.ensures.is ∙ ap (λ (modal : GroundModal). is_met (later modal state watches reader).stages) modal_is in
    let groups_are = c.turned-turn.ensures.groups ∙ ap (λ (modal : GroundModal). put_renewed modal state watches reader) modal_is in
    let tally_is : c.recount.new.tally ≡ recounted by_name (watch_at watches reader.group).name (is_met (watch_at watches reader.group).stages) (is_met (later (modal_at G reader) state watches reader).stages) tally =
    c.recount.ensures ∙ (λ i. recounted by_name (c.turned-turn.ensures.name i) (c.turned-turn.ensures.was i) (is_is i) tally) in
    subst (λ (list : List Watch). CanRenew G by_name state list c.recount.new.tally) (sym groups_are)
    (subst (λ (one : Counted). CanRenew G by_name state (renewed_at G state watches reader) one) (sym tally_is)
    (renews G by_name state watches tally c.requires.can reader c.requires.reader))
