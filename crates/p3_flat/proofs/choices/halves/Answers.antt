use Rattle.std.proofs.Common.{◌<◌, ◌∙◌, ◌+◌, ◌++◌, length, get_or, take, ap, sym, subst}
use Rattle.p3_flat.specs.Splitting.{AreHalves, listed}
use Rattle.p3_flat.proofs.ChoiceLemmas.{next_halves}
use Rattle.p3_flat.proofs.choices.halves.Goals as goal

pub loop-choice-preserved : goal.loop-choice-preserved
loop-choice-preserved c =
    subst (AreHalves c.args.pre.now c.args.literal.now.holds (take (c.loop-choice.choice-index + 1) c.args.choices.now)) (sym (c.in_ok-push_listed-2.ensures ∙ ap (λ list. list ++ listed c.in_ok-with.with) c.in_ok-push_listed.ensures))
    (next_halves c.args.pre.now c.args.literal.now c.requires c.args.choices.now c.loop-choice.choice-index c.choice-item.result
    (subst (λ list. c.loop-choice.choice-index < length list) c.items-choice-items.ensures c.loop-choice-test.true)
    (c.choice-item.is ∙ ap (λ list. get_or list c.loop-choice.choice-index c.choice-item.result) c.items-choice-items.ensures)
    c.loop-choice.new.items c.in_ok-without.without c.in_ok-with.with c.loop-choice.invariant c.in_ok-without.ensures c.in_ok-with.ensures)
