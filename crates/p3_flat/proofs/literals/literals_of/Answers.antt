use Rattle.std.proofs.Common.{◌∙◌, ◌<◌, length, get_or, ap, sym, subst}
use Rattle.std.specs.List.{All}
use Rattle.std.proofs.lemmas.List.Elements.{All-push}
use Rattle.p3_flat.specs.Splitting.{IsLiteral, conditions_in}
use Rattle.p3_flat.proofs.ChoiceLemmas.{next_literal}
use Rattle.p3_flat.proofs.literals.literals_of.Goals as goal

pub loop-condition-preserved : goal.loop-condition-preserved
loop-condition-preserved c = (
  ap conditions_in c.in_ok-push.ensures.items
      ∙ next_literal c.args.conditions.now c.loop-condition.condition-index c.condition-item.result c.loop-condition.literals.items c.in_ok-with_opposite.field-0
      (subst (λ list. c.loop-condition.condition-index < length list) c.items-condition-items.ensures c.loop-condition-test.true)
      (c.condition-item.is ∙ ap (λ list. get_or list c.loop-condition.condition-index c.condition-item.result) c.items-condition-items.ensures)
      c.loop-condition.invariant.0 c.in_ok-with_opposite.ensures.holds,
  subst (All IsLiteral) (sym c.in_ok-push.ensures.items) (All-push IsLiteral c.loop-condition.literals.items c.in_ok-with_opposite.field-0 c.loop-condition.invariant.1 c.in_ok-with_opposite.ensures.is),
)

pub returns-clause-are : goal.returns-clause-are
returns-clause-are c = subst (All IsLiteral) (sym c.from.ensures) c.loop-condition.invariant.1
