use Rattle.std.proofs.Common.{◌<◌, ◌∙◌, ◌+◌, length, get_or, take, ap, sym, subst}
use Rattle.p3_flat.specs.Splitting.{AreCopies}
use Rattle.p3_flat.proofs.CopyLaws.{next_copies}
use Rattle.p3_flat.proofs.splitting.copies_by.Goals as goal

pub loop-choice-preserved : goal.loop-choice-preserved
loop-choice-preserved c =
    subst (AreCopies c.args.action.now c.args.changes.now (take (c.loop-choice.choice-index + 1) c.args.choices.now)) (sym c.in_ok-push.ensures.items)
    (next_copies c.args.action.now c.args.changes.now c.args.choices.now c.loop-choice.choice-index c.choice-item.result
    (subst (λ list. c.loop-choice.choice-index < length list) c.items-choice-items.ensures c.loop-choice-test.true)
    (c.choice-item.is ∙ ap (λ list. get_or list c.loop-choice.choice-index c.choice-item.result) c.items-choice-items.ensures)
    c.loop-choice.copies.items c.in_ok-copy_of.field-0 c.loop-choice.invariant c.in_ok-copy_of.ensures)
