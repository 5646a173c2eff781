use Rattle.std.proofs.Common.{◌<◌, ◌∙◌, length, get_or, ap, sym, subst, []}
use Rattle.std.proofs.lemmas.List.Elements.{All-get_or}
use Rattle.p3_flat.specs.Splitting.{AreChoices, IsLiteral}
use Rattle.p3_flat.proofs.ChoiceLemmas.{next_choices, no_conditions}
use Rattle.p3_flat.proofs.choices.all_choices.Goals as goal

pub loop-literal-init : goal.loop-literal-init
loop-literal-init c = subst (AreChoices c.args.pre.now []) (sym c.in_ok-made.ensures) (no_conditions c.args.pre.now)

pub loop-literal-preserved : goal.loop-literal-preserved
loop-literal-preserved c =
    next_choices c.args.pre.now c.args.literals.now c.loop-literal.literal-index c.literal-item.result
    (subst (λ list. c.loop-literal.literal-index < length list) c.items-literal-items.ensures c.loop-literal-test.true)
    (c.literal-item.is ∙ ap (λ list. get_or list c.loop-literal.literal-index c.literal-item.result) c.items-literal-items.ensures)
    c.loop-literal.made c.in_ok-made-2.made c.loop-literal.invariant c.in_ok-made-2.ensures

pub halves-requires : goal.halves-requires
halves-requires c =
    let within = subst (λ list. c.loop-literal.literal-index < length list) c.items-literal-items.ensures c.loop-literal-test.true in
    let item = c.literal-item.is ∙ ap (λ list. get_or list c.loop-literal.literal-index c.literal-item.result) c.items-literal-items.ensures in
    subst IsLiteral (sym item) (All-get_or IsLiteral c.args.literals.now c.loop-literal.literal-index c.literal-item.result within c.requires)
