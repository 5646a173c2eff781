use Rattle.std.proofs.Common.{◌∙◌, ◌++◌, ap}
use Rattle.std.specs.Prelude.{codes}
use Rattle.std.proofs.lemmas.Result.{on_ok_weaker}
use Rattle.p3_writer.specs.Layout.{changes_text, cost_text}
use Rattle.p3_writer.proofs.LayoutLemmas.{four_pushed}
use Rattle.p3_writer.proofs.layout.push_effect.Goals as goal

pub returns-clause-layout : goal.returns-clause-layout
returns-clause-layout c =
    let changes = changes_text c.args.atoms.now c.args.changes.now in
    let cost = cost_text c.args.cost in
    on_ok_weaker c.push-2.result
    (λ is. is
    ∙ ap (λ text. text ++ codes "))\n") (c.in_ok-push_cost.ensures.layout ∙ ap (λ text. text ++ cost) (c.in_ok-push_changes.ensures ∙ ap (λ text. text ++ changes) c.in_ok-push.ensures))
    ∙ four_pushed c.args.out.now.items (codes "\n :effect (and") changes cost (codes "))\n"))
    c.push-2.ensures
