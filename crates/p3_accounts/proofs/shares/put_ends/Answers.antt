use Rattle.std.specs.Prelude.{codes}
use Rattle.std.proofs.lemmas.Result.{on_err_weaker}
use Rattle.p3_reports.proofs.PutLemmas.{on_err, partly_first, partly_second}
use Rattle.p3_accounts.specs.Shares.{quantity_line}
use Rattle.p3_accounts.proofs.shares.put_ends.Goals as goal

pub returns-in_err-put_quantity-clause-partly : goal.returns-in_err-put_quantity-clause-partly
returns-in_err-put_quantity-clause-partly g c =
    let shares = c.args.shares.now in
    on_err c.from_residual.result (partly_first (quantity_line (codes "loss") shares.loss) (quantity_line (codes "metric") shares.metric) _ _ c.in_err-put_quantity.ensures.partly)

pub returns-clause-partly : goal.returns-clause-partly
returns-clause-partly g c =
    let shares = c.args.shares.now in
    on_err_weaker c.put_quantity-2.result (partly_second (quantity_line (codes "loss") shares.loss) (quantity_line (codes "metric") shares.metric) _ _ _ c.in_ok-put_quantity.ensures.ok) c.put_quantity-2.ensures.partly
