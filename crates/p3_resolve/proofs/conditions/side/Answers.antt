use Rattle.std.proofs.Common.{◌∙◌, None}
use Rattle.p3_resolve.specs.Steps.{argument_step}
use Rattle.p3_resolve.specs.Walk.{with_found}
use Rattle.p3_resolve.proofs.TermLemmas.{side-tree}
use Rattle.p3_resolve.proofs.conditions.side.Goals as goal

pub returns-clause-walk : goal.returns-clause-walk
returns-clause-walk c =
    let T = c.args.tables.now.task.now in
    let walk = c.args.walk.now in
    (λ i. with_found (c.in_ok-made.ensures.found i) (c.walk.view_is i))
    ∙ (λ i. with_found (argument_step T walk.scope None (c.walk.view_is i).found c.args.side.now) walk) ∙ side-tree T walk c.args.side.now
