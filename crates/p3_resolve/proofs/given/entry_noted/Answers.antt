use Rattle.std.proofs.Common.{◌∙◌, ◌∷◌, [], sym, ap, subst}
use Rattle.p3_task.specs.States.{meanings}
use Rattle.p3_resolve.specs.Given.{AddsValue}
use Rattle.p3_resolve.proofs.GivenLemmas.{adds-value}
use Rattle.p3_resolve.proofs.given.entry_noted.Goals as goal

pub returns-in_ok-is_new-in-Value-clause-given : goal.returns-in_ok-is_new-in-Value-clause-given
returns-in_ok-is_new-in-Value-clause-given c =
    subst (λ entry. AddsValue c.args.given.now entry c.add.new.self) (sym c.in-Value.is)
    (adds-value c.args.given.now c.add.new.self _ c.in-Value.function c.in-Value.args c.in-Value.number
    (c.in_ok-key-in-Value.ensures ∙ ap (λ args. c.in-Value.function.name ∷ meanings [] args) c.items.ensures) c.in_ok-is_new-in-Value.ensures.more)
