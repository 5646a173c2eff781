use Rattle.std.proofs.lemmas.Result.{IfOk-weaker}
use Rattle.p3_formula.proofs.TrimmedLaws.{trimmed_does}
use Rattle.p3_formula.proofs.trimmed.effects_trimmed.Goals as goal

pub returns-clause-does : goal.returns-clause-does
returns-clause-does c =
    IfOk-weaker c.trimmed_beside.result _ _
    (λ simple is. trimmed_does c.args.known.now c.in_ok-cleared.cleared c.args.effects c.into_items.result.items c.items.result.now simple c.in_ok-cleared.ensures c.items.ensures c.into_items.ensures is)
    c.trimmed_beside.ensures
