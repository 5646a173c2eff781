use Rattle.std.proofs.Common.{◌∙◌, ap, sym}
use Rattle.p3_task.specs.Uses.{amount_uses}
use Rattle.p3_resolve.specs.Walk.{with_tree}
use Rattle.p3_resolve.proofs.FormLemmas.{amount-Number}
use Rattle.p3_resolve.proofs.effects.numbered_amount.Goals as goal

pub returns-in-Number-clause-walk : goal.returns-in-Number-clause-walk
returns-in-Number-clause-walk c =
    let T = c.args.tables.now.task.now in
    sym (ap (λ amount. with_tree T (amount_uses amount) c.args.walk.now) c.in-Number.is ∙ amount-Number T c.args.walk.now c.in-Number.numeral)
