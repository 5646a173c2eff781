use Rattle.std.proofs.Common.{◌≡◌, ◌∙◌, ◌+◌, sym, ap, subst, length, rules}
use Rattle.std.specs.List.{AllZip, range_with_len}
use Rattle.p3_task.specs.PreferenceNames.{ordered_names}
use Rattle.p3_types.specs.declared.checked.Checked.{Checked}
use Rattle.p3_shares.specs.Sharing.{IsShareAt}
use Rattle.p3_shares.proofs.RunLemmas.{named}
use Rattle.p3_shares.proofs.ShareLemmas.{next_share}
use Rattle.p3_shares.proofs.names.name_shares.Goals as goal

pub loop-number-preserved : goal.loop-number-preserved
loop-number-preserved c =
    let ran = c.args.run.now in
    let number = c.loop-number.number in
    subst (AllZip (IsShareAt ran) (range_with_len 0 (number + 1))) (sym c.in_ok-push.ensures.ok)
    (next_share ran number c.loop-number.shares c.name_share.result c.loop-number.invariant c.name_share.ensures)

pub returns : goal.returns
returns c =
    let ran = c.args.run.now in
    let all : length (ordered_names c.checked.result.now.task) ≡ length ran.weights.by_name =
    ap (λ (checked : Checked). length (ordered_names checked.task)) c.checked.ensures.checked ∙ sym (named c.args.grounded.now ran c.requires.can) in
    let ends : c.loop-number.number ≡ c.names-number-end.result = search rules in
    subst (λ n. AllZip (IsShareAt ran) (range_with_len 0 n) c.loop-number.shares) (ends ∙ c.names-number-end.ensures ∙ all) c.loop-number.invariant
